use Rattle.std.proofs.Common.{◌≡◌, map, drop, codes}
use Rattle.std.specs.List.{list_any}
use Rattle.httparse.specs.Spans.{header_bytes}
use Rattle.adminhttp.specs.Fields.{is_named}
use Rattle.adminhttp.proofs.fields.is_coded.Given as goal

-- none of the headers passed
abbrev pub invariant-loop-header : goal.invariant-loop-header
invariant-loop-header l =
    list_any (is_named (codes "transfer-encoding")) (map (header_bytes l.text) l.headers)
    ≡ list_any (is_named (codes "transfer-encoding")) (map (header_bytes l.text) (drop l.header-index l.headers))
