mod SmallLemmas
pub mod Sample
mod CommandRows
mod JudgedRows
mod OfficeRows
mod RefusedRows
mod AccountRows
mod HiddenRows
mod Parts
mod SampleSound
pub mod Laws
pub mod Served
mod Vanishing
mod Reviewed
mod Sights
mod HiddenDeposit
pub mod Snapshot
pub mod UniqueIds
pub mod OwnRecords
pub mod MarksByView
pub mod Greetings
pub mod DepositIds
pub mod Accepting
pub mod Bounds
pub mod RepliesForm
pub mod UniqueIdTexts
mod Keeping
mod SameReply
mod Hearing
mod Events
mod Counting
mod Lending
mod Running
mod SentExactly
mod AdministrationRows
mod SessionRows
mod EndRows
mod NameOrder
mod AgreeLists
mod Beginning
mod Standing
mod Coming
mod Ending
mod SessionList
mod Quiet
mod NewMessage
mod VaultCalls
mod PolicyCommands
mod AfterEvents
pub mod Lying
pub mod Removing
mod Entering
mod Failing
pub mod Agreeing
pub mod Locked
pub mod LineRecords
pub mod GoingOn
mod Acting
mod Locking
mod Judging
mod Accounts
mod AfterLines
mod LineDone
mod PieceDone
mod TakingDone
mod TakingExits
mod Alike
mod Naming
mod Listed
mod Picking
mod Quitting
mod Remembering
mod Obeying
mod Permitted
mod Taking
mod Telling
mod NumberLemmas
mod Texts
mod ListedRows
mod Owing
mod Paging
mod Reporting
mod Restarting
mod Ticking
pub mod Stopping
pub mod StoppingLines
mod Unasked
mod Memory
mod MeetingLocks
mod Many
mod Sending
pub mod Frames
