use Rattle.std.proofs.Common.{◌≡◌, ◌<◌, ◌+◌, ◌-◌, [], ◌∷◌, ◌^◌, length, drop, sym, ap, subst, ◌∙◌, arith, rules, SFits, w64, to_z, of_z, to_z-of_z, Ok}
use Rattle.std.proofs.lemmas.List.{drop_all, drop_more}
use Rattle.mailsql.specs.Changes.{RemovesMessage}
use Rattle.mailsql.specs.Rows.{Rows}
use Rattle.sqlvault.specs.Keeps.{row_key}
use Rattle.sqlvault.proofs.FrameLemmas.{wrote, unwritten, writes_none, writes_then, writes_failed, passed}
use Rattle.sqlvault.proofs.FrameLemmas.{writes_halted}
use Rattle.sqlvault.proofs.RemoveLemmas.{Removed, none_removed, one_before}
use Rattle.sqlvault.proofs.mail.remove_all.Goals as goal

pub loop-left-init : goal.loop-left-init
loop-left-init g c =
    let keys = c.args.keys.now in
    let none : drop (length keys) keys ≡ [] = drop_all (length keys) keys (omega arith) in
    record {
      within = omega arith;
      done = rw none (writes_none g.S.Store c.args.conn.now _ (none_removed c.args.maildrop.now));
    }

pub loop-left-preserved : goal.loop-left-preserved
loop-left-preserved g c =
    let number = c.index-keys-left.result in
    let d = c.args.maildrop.now in
    let keys = c.args.keys.now in
    let n = c.loop-left.left in
    let some = c.loop-left-test.true in
    let within = c.loop-left.invariant.within in
    let sfits : SFits w64 c.cast_signed-key.result = search rules in
    let key : to_z w64 (of_z w64 c.cast_signed-key.result) ≡ row_key number =
    to_z-of_z sfits ∙ c.cast_signed-key.ensures ∙ ap (to_z w64) c.number.ensures in
    let asked = to_z w64 (of_z w64 c.cast_signed-key.result) in
    let t = c.as_bytes.result.now in
    let fits : number < 2 ^ 64 =
    let e = c.number.ensures in
    let r : c.number.result < 2 ^ 64 = search rules in omega (arith, e, r) in
    let low : n - 1 < length keys = omega (arith, some, within) in
    let next : (n - 1) + 1 ≡ n = omega (arith, some) in
    let front : drop (n - 1) keys ≡ number ∷ drop n keys =
    rw (sym c.index-keys-left.is, next) at (drop_more keys (n - 1) number low) in
    record {
      within = omega (arith, within);
      done = rw front (writes_then (λ _. Removed d (drop n keys)) (RemovesMessage asked t)
          (Removed d (number ∷ drop n keys)) tt (Ok tt) c.loop-left.invariant.done
          (wrote g.S.Store c.loop-left.conn c.remove_message.new.conn (λ _. RemovesMessage asked t)
          (RemovesMessage asked t) tt c.in_ok-remove_message.ensures.ok c.remove_message.ensures.survives)
          (λ from mid to before removes.
          let gone : RemovesMessage (row_key number) d mid to =
          subst (λ z. RemovesMessage z d mid to) key
          (subst (λ x. RemovesMessage asked x mid to) c.as_bytes.ensures.value removes) in
          one_before d (drop n keys) number from mid to fits before gone));
    }

pub returns-in_err-remove_message : goal.returns-in_err-remove_message
returns-in_err-remove_message g c = rw (passed c.from_residual.ensures.1) (let asked = to_z w64 (of_z w64 c.cast_signed-key.result) in
    let Removes : Unit {0} → Rows → Rows → Type 0 = λ _. RemovesMessage asked c.as_bytes.result.now in
    writes_failed (writes_halted
    (λ _. Removed c.args.maildrop.now (drop c.loop-left.left c.args.keys.now)) tt
    c.loop-left.invariant.done
    (unwritten g.S.Store c.loop-left.conn c.remove_message.new.conn Removes
    (RemovesMessage asked c.as_bytes.result.now) c.in_err-remove_message.field-0.0 c.in_err-remove_message.ensures.err
    c.remove_message.ensures.survives)))

pub returns : goal.returns
returns g c =
    let done = c.loop-left.invariant.done in
    let none : c.loop-left.left ≡ 0 = omega (arith, c.loop-left-test.false) in
    rw none at done
