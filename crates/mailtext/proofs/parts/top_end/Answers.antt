use Rattle.std.proofs.Common.{◌≡◌, length, take, drop}
use Rattle.std.proofs.lemmas.List.{take_rest}
use Rattle.mailtext.specs.Text.{lines_of, ended}
use Rattle.mailtext.proofs.PartLemmas.{kept_behind_header, length-top_part}
use Rattle.mailtext.proofs.parts.top_end.Goals as goal

pub lines_end-requires : goal.lines_end-requires
lines_end-requires c =
    let octets = c.args.octets.now in
    let h = c.header_end-header in
    rw (take_rest octets h.result) (kept_behind_header octets h.result c.requires h.ensures.value)

pub returns-clause-value : goal.returns-clause-value
returns-clause-value c =
    let octets = c.args.octets.now in
    let h = c.header_end-header in
    let k : c.lines_end.result ≡ length (ended (take c.args.n (lines_of (drop h.result octets)))) = rw (take_rest octets h.result) at c.lines_end.ensures.value in
    length-top_part octets c.args.n h.result c.lines_end.result c.requires h.ensures.value k
