use Rattle.std.proofs.Common.{◌≡◌, ◌≤◌, take, drop, length, ◌∙◌, ap, arith}
use Rattle.serving.proofs.Scripting.{read_on}
use Rattle.serving.proofs.script_links.read_from.Goals as goal

pub returns-clause-read : goal.returns-clause-read
returns-clause-read c =
    let n = c.min-count.result in
    let xs = c.args.link.now.comes.items in
    let at = c.args.link.now.at in
    let rest : c.rest_of-rest.result.now ≡ drop at xs = c.rest_of-rest.ensures ∙ ap (drop at) c.as_slice.ensures.value in
    let a = c.min-count.ensures in
    let b = c.min.ensures in
    let within : n ≤ length (drop at xs) = omega (arith, a, b, ap length rest) in
    read_on xs at n c.copy_from_slice.new.self (drop n c.args.buffer.now) (c.copy_from_slice.ensures.after ∙ ap (take n) rest) within
