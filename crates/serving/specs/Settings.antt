-- How the loop was set, and which spool file was tried last.
use Rattle.std.specs.Prelude.{ℕ, Bool, false, Option}
use Rattle.serving.specs.declared.file_name.FileName.{FileName}
use Rattle.serving.specs.declared.links.Links.{Links}
use Rattle.serving.specs.declared.links.Clients.{Clients}

pub record Settings : Type 0 where
  -- for how many seconds a login waits for its maildrop's lock
  pub wait : ℕ
  -- how many seconds a client has for its login; 0, if that has no limit of its own
  pub login_seconds : ℕ
  -- at a full house a newcomer gets the place of a client that isn't logged in
  pub make_room : Bool
  -- logins are kept back after refused ones
  pub slow_guesses : Bool

abbrev pub settings_of : Clients → Settings
settings_of clients = record {
  wait = clients.wait;
  login_seconds = clients.newcomers.seconds;
  make_room = clients.make_room;
  slow_guesses = clients.guesses.are_slow;
}

abbrev pub settings : Links → Settings
settings links = settings_of links.clients

-- the spool file that was tried last
abbrev pub last_tried : Links → Option FileName
last_tried links = links.clients.last

-- no login waits, none has a limit of its own, nobody makes room, and guesses come as fast as they
-- come
abbrev pub none_set : Settings
none_set = record { wait = 0; login_seconds = 0; make_room = false; slow_guesses = false }

-- one of them is set, and the others stay
abbrev pub with_wait : ℕ → Settings → Settings
with_wait seconds s = record {
  wait = seconds;
  login_seconds = s.login_seconds;
  make_room = s.make_room;
  slow_guesses = s.slow_guesses;
}

abbrev pub with_login_seconds : ℕ → Settings → Settings
with_login_seconds seconds s = record {
  wait = s.wait;
  login_seconds = seconds;
  make_room = s.make_room;
  slow_guesses = s.slow_guesses;
}

abbrev pub with_make_room : Bool → Settings → Settings
with_make_room make_room s = record {
  wait = s.wait;
  login_seconds = s.login_seconds;
  make_room = make_room;
  slow_guesses = s.slow_guesses;
}

abbrev pub with_slow_guesses : Bool → Settings → Settings
with_slow_guesses slow s = record {
  wait = s.wait;
  login_seconds = s.login_seconds;
  make_room = s.make_room;
  slow_guesses = slow;
}
