use Rattle.std.proofs.Common.{◌≡◌, ◌++◌, map, drop, codes, option_copied, option_to_list}
use Rattle.httparse.specs.Spans.{header_bytes}
use Rattle.adminhttp.specs.Fields.{only, values_of}
use Rattle.adminhttp.proofs.fields.only_length.Given as goal

-- what was found, and what is still to come
abbrev pub invariant-loop-header : goal.invariant-loop-header
invariant-loop-header l =
    only (values_of (codes "content-length") (map (header_bytes l.text) l.headers))
    ≡ only (option_to_list (option_copied l.found) ++ values_of (codes "content-length") (map (header_bytes l.text) (drop l.header-index l.headers)))
