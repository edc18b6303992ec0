use Rattle.std.proofs.Common.{◌≡◌, ◌++◌, map, drop, codes, option_copied, option_to_list}
use Rattle.httparse.specs.Spans.{header_bytes}
use Rattle.adminhttp.specs.Fields.{values_of}
use Rattle.adminhttp.specs.Sites.{only_one}
use Rattle.adminhttp.proofs.sites.only_host.Given as goal

-- what was found, and what is still to come
abbrev pub invariant-loop-header : goal.invariant-loop-header
invariant-loop-header l =
    only_one (values_of (codes "host") (map (header_bytes l.text) l.headers))
    ≡ only_one (option_to_list (option_copied l.found) ++ values_of (codes "host") (map (header_bytes l.text) (drop l.header-index l.headers)))
