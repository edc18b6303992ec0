use Rattle.std.proofs.Common.{◌≡◌, ◌++◌, ℕ, List, append_assoc, codes}
use Rattle.journal.specs.Settings.{yes_or_no, when_text, seconds_text, flags_text, logged_text, admin_text}
use Rattle.journal.proofs.settings.settings_text.Goals as goal

joined : (p a q b s f l d : List ℕ) → p ++ (a ++ (q ++ (b ++ (s ++ (f ++ (l ++ d)))))) ≡ p ++ a ++ q ++ b ++ s ++ f ++ l ++ d
joined p a q b s f l d = simp append_assoc

pub returns : goal.returns
returns c =
    let s = c.args.settings.now in
    rw (c.in_ok-text.ensures.ok, c.yes_or_no-proved.ensures, c.when_word-removals.ensures, c.in_ok-seconds.ensures, c.in_ok-flags.ensures, c.in_ok-logged.ensures, c.in_ok-admin.ensures)
    (joined (codes " proved=") (yes_or_no s.is_proved) (codes " removals=") (when_text s.removals) (seconds_text s) (flags_text s) (logged_text s) (admin_text s))
