use Rattle.std.proofs.Common.{◌≡◌, ◌+◌, ◌++◌, ℕ, List, take, drop, length, sym, ◌∙◌, ap, arith, append-nil, rules}
use Rattle.mailtext.specs.Streams.{stuffed_from}
use Rattle.office.specs.Output.{cut_from, last_line}
use Rattle.office.specs.declared.reading.Reading.{Reading}
use Rattle.office.proofs.Paging.{page_on, page_cut, page_ends}
use Rattle.office.proofs.reading.Reading.put.Goals.{In_ok-put_stuffed}
use Rattle.office.proofs.reading.Reading.put.Goals as goal
use Rattle.office.proofs.reading.Reading.put.Goals.{else-part-page-via-then-part-page+else-self, else-part-page-via-else-part-page}

-- ---- what the part of the page that was put leaves

place_is : (c : In_ok-put_stuffed) → c.put_stuffed.new.self.place ≡ c.args.self.now.place
place_is c = ap (λ (x : Reading). x.place) c.put_stuffed.ensures.same ∙ ap (λ (x : Reading). x.place) c.part_of-part.ensures.same

stuffs : (c : In_ok-put_stuffed) (more : List ℕ) → c.args.ready.now.items ++ stuffed_from c.args.self.now.stuffer (take c.part_of-part.result c.args.page.now ++ more)
    ≡ c.put_stuffed.new.ready.items ++ stuffed_from c.put_stuffed.new.self.stuffer more
stuffs c more =
    let first : c.part_of-part.new.self.stuffer ≡ c.args.self.now.stuffer = ap (λ (x : Reading). x.stuffer) c.part_of-part.ensures.same in
    ap (λ s. c.args.ready.now.items ++ stuffed_from s (take c.part_of-part.result c.args.page.now ++ more)) (sym first) ∙ c.in_ok-put_stuffed.ensures.ok more

-- ---- each exit

pub returns-then-self-clause-put : goal.returns-then-self-clause-put
returns-then-self-clause-put c = λ text size is.
    let it = (goal.at.returns-then-self-clause-put c).In_ok-put_stuffed in
    let read : Reading = c.args.self.now in
    let last : Reading = c.put_stuffed.new.self in
    let cut : last.cut ≡ c.part_of-part.new.self.cut = ap (λ (x : Reading). x.cut) c.put_stuffed.ensures.same in
    let at : last.place ≡ read.place = place_is it in
    let passed : c.saturating_add-self.result ≡ read.place + length c.args.page.now = search rules in
    let whole = page_on read.stuffer last.stuffer read.cut c.part_of-part.new.self.cut c.args.page.now text c.args.ready.now.items c.put_stuffed.new.ready.items
    read.place c.part_of-part.result is c.part_of-part.ensures.part (stuffs it) c.if-part-page.true in
    rw (passed, cut) whole

pub returns-clause-put : goal.returns-clause-put
returns-clause-put c = λ text size is.
    let it = (goal.at.returns-clause-put c).In_ok-put_stuffed in
    let r : Reading = c.args.self.now in
    let m : Reading = c.part_of-part.new.self in
    let w : Reading = c.put_stuffed.new.self in
    let page = c.args.page.now in
    let old = c.args.ready.now.items in
    let new = c.put_stuffed.new.ready.items in
    let part = c.part_of-part.result in
    let at : w.place ≡ r.place = place_is it in
    let size_is : w.octets ≡ r.octets = ap (λ (x : Reading). x.octets) c.put_stuffed.ensures.same ∙ ap (λ (x : Reading). x.octets) c.part_of-part.ensures.same in
    let said : c.end_lines.new.out.items ≡ new ++ last_line = c.in_ok-end_lines.ensures.ok in
    let whole : old ++ (stuffed_from r.stuffer (cut_from r.cut (drop r.place text)) ++ last_line) ≡ new ++ last_line =
    elim c.else-part-page.branch [
      | else-part-page-via-then-part-page+else-self b ↦
          page_ends r.stuffer w.stuffer r.cut m.cut page text old new r.place part is c.part_of-part.ensures.part (stuffs it) b.if-part-page.true
          (omega (arith, size, size_is, at, b.if-self.false, c.saturating_add-self.ensures))
      | else-part-page-via-else-part-page b ↦
          page_cut r.stuffer w.stuffer r.cut m.cut page text old new r.place part is c.part_of-part.ensures.part (stuffs it)
          (c.part_of-part.ensures.over (omega (arith, b.if-part-page.false, c.part_of-part.ensures.within)))
    ] in
    whole ∙ (sym said ∙ sym (append-nil c.end_lines.new.out.items))
