use Rattle.std.proofs.Common.{◌≡◌, ◌≤◌, ◌-◌, ◌++◌, take, drop, length}
use Rattle.sqlvault.specs.Pages.{octets_from}
use Rattle.sqlvault.proofs.pages.copy_sheets.Given as goal

abbrev pub invariant-loop-place : goal.invariant-loop-place
invariant-loop-place l = record {
  room : l.put ≤ length l.buffer;
  size : length l.buffer ≡ length l.fn.buffer;
  copied : take l.put l.buffer ++ take (length l.buffer - l.put) (drop l.left (octets_from (l.end - l.place) l.sheets l.place))
      ≡ take (length l.buffer) (drop l.skip (octets_from (l.end - l.first) l.sheets l.first));
}
