use Rattle.std.proofs.Common.{◌≡◌, ◌+◌, ◌-◌, ℕ, take, drop, inr, refl, sym, ap, ◌∙◌, arith}
use Rattle.std.proofs.lemmas.List.{take_rest}
use Rattle.adminhttp.proofs.head.read.read_head.Goals as goal

pub returns-in_default-parse_head-clause-stop : goal.returns-in_default-parse_head-clause-stop
returns-in_default-parse_head-clause-stop c = λ site access.
    (let width : (c.in-Some.start + c.in-Some.len) - c.in-Some.start ≡ c.in-Some.len = omega arith in
    let place = rw c.front_of.ensures.value at (sym c.locate.ensures.value ∙ c.in-Some.is) in
    let none = rw width at c.in_default-parse_head.ensures.none in
    rw place (inr (none, refl)))

pub returns-clause-ok : goal.returns-clause-ok
returns-clause-ok c =
    let width : (c.in-Some.start + c.in-Some.len) - c.in-Some.start ≡ c.in-Some.len = omega arith in
    let place = rw c.front_of.ensures.value at (sym c.locate.ensures.value ∙ c.in-Some.is) in
    let found = c.in-Some-parse_head.ensures.some in
    let is_head = rw width at found.2 in
    let target = c.of-2.ensures ∙ found.1.path in
    record {
      place = (c.in-Some.start, c.in-Some.len);
      at = place;
      is = found.0;
      is_head = is_head;
      text = ap (λ (n : ℕ). take n (drop c.in-Some.start c.args.octets.now)) width;
      method = c.of.ensures ∙ found.1.method;
      target = target;
      target_text = rw target found.2.0.0.target_text;
      behind = take_rest c.args.octets.now (c.in-Some.start + c.in-Some.len);
      count = c.in-Some-parse_head.ensures.within.section.count_fits;
      headers = found.1.fields;
      within = rw c.in-Some-parse_head.ensures.whole at c.in-Some-parse_head.ensures.within.section.headers_fit;
    }
