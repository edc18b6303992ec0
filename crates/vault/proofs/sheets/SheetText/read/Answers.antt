use Rattle.std.proofs.Common.{◌≡◌, ◌+◌, ◌*◌, ◌/◌, ◌%◌, ◌<◌, ◌≤◌, suc, [], take, drop, get_or, length, arith}
use Rattle.std.specs.List.{concat}
use Rattle.vault.specs.Changes.{IsPage}
use Rattle.vault.proofs.SheetLemmas.{page_of_part, page_past, at_page, in_page, past_sheets}
use Rattle.vault.proofs.sheets.SheetText.read.Goals as goal

pub returns-in-Some-clause-page : goal.returns-in-Some-clause-page
returns-in-Some-clause-page c =
    let sheets = c.self.inside.sheets.items in
    let found = c.in-Some.ensures.lookup.3 in
    let from = c.args.from in
    let number = from / 4096 in
    let at = from % 4096 in
    let room = length c.copy_from.new.buffer in
    let octets = take c.copy_from.result c.copy_from.new.buffer in
    let is_there : number < length sheets = rw c.deref.ensures.value at found.0 in
    let page_is : c.in-Some.sheet.now ≡ get_or sheets number [] = rw c.deref.ensures.value at found.1 [] in
    let small : at < 4096 = omega arith in
    let split : from ≡ number * 4096 + at = omega arith in
    let part : IsPage (get_or sheets number []) at room octets = rw (c.octets.ensures, page_is) at c.copy_from.ensures.page in
    rw (← c.self.view_is)
    (page_of_part (concat sheets) (get_or sheets number []) (concat (drop (suc number) sheets)) from at room octets
    (at_page sheets number from at c.self.invariant.0 is_there small split)
    (in_page sheets number from at c.self.invariant.0 is_there small split) part)

pub returns-in-None-clause-page : goal.returns-in-None-clause-page
returns-in-None-clause-page c =
    let sheets = c.self.inside.sheets.items in
    let from = c.args.from in
    let past : length sheets ≤ from / 4096 = rw c.deref.ensures.value at c.in-None.ensures.lookup.3 in
    let less = past_sheets sheets (from / 4096) c.self.invariant.0 past in
    rw (← c.self.view_is) (page_past (concat sheets) from (length c.args.buffer.now) (omega (arith, less)))
