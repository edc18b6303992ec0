use Rattle.std.proofs.Common.{◌≡◌, map, drop}
use Rattle.std.specs.List.{list_any}
use Rattle.httparse.specs.Spans.{header_bytes}
use Rattle.adminhttp.specs.Sites.{tells_another}
use Rattle.adminhttp.proofs.sites.any_tells_another.Given as goal

-- none of the headers passed
abbrev pub invariant-loop-header : goal.invariant-loop-header
invariant-loop-header l =
    list_any (tells_another l.host) (map (header_bytes l.text) l.headers)
    ≡ list_any (tells_another l.host) (map (header_bytes l.text) (drop l.header-index l.headers))
