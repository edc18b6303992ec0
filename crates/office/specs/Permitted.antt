-- A line by its state: it spells a command that may be given, or it is refused.
use Rattle.std.specs.Prelude.{◌≡◌, Bool, true, false, Ok}
use Rattle.popline.specs.Cutting.{Cut}
use Rattle.popline.specs.Commands.{Command, keyword_of}
use Rattle.popline.specs.declared.command.Keyword.{Keyword}
use Rattle.popline.specs.Replies.{Reply}
use Rattle.office.specs.History.{Tag}
use Rattle.office.specs.Connections.{reading}
use Rattle.office.specs.Replying.{LineState, is_allowed, is_permitted, reply_to}

-- the line spells this command, which may be given in a session (`live`), or before one
pub record Permits (live has_user : Bool) (x : Cut) (command : Command) : Type 0 where
  pub read : reading x ≡ Ok command
  pub allowed : is_allowed (keyword_of command) live has_user ≡ true

-- The line is refused by this reply, in each state in which the same keywords may be given. If it
-- spells a command, that isn't one of them.
pub record Refuses (live has_user : Bool) (x : Cut) (reply : Reply) : Type 0 where
  pub said : (s : LineState) (t : Tag)
      → ((k : Keyword) → is_permitted s k ≡ is_allowed k live has_user) → reply_to s x t ≡ reply
  pub not_allowed : (command : Command) → reading x ≡ Ok command
      → is_allowed (keyword_of command) live has_user ≡ false
