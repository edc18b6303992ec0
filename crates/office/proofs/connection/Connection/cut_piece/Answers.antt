use Rattle.std.proofs.Common.{◌≡◌, ◌-◌, [], cond, drop, take, take_all, length, length-drop, string_bytes, arith, sym, ◌∙◌, ap, rules}
use Rattle.popline.specs.Cutting.{through_newline}
use Rattle.office.specs.Kept.{Kept}
use Rattle.office.proofs.Keeping.{has_line, none_whole, no_line, none_left}
use Rattle.office.proofs.AfterLines.{piece_cut, err_or_not}
use Rattle.office.proofs.connection.Connection.cut_piece.Goals.{After-feed-n}
use Rattle.office.proofs.connection.Connection.cut_piece.Goals as goal

-- what is kept of the connection, by its fields
abbrev kept : After-feed-n → Kept
kept c =
    let s = c.self.inside in
    record { held = s.cutter; pending = drop s.cut s.pending.items; output = s.output; state = s.state; stamp = string_bytes s.stamp; session = s.session; clock = s.clock }

pub returns-in_default-clause-cut : goal.returns-in_default-clause-cut
returns-in_default-clause-cut c =
    let f = c.feed-n.ensures in
    let p = c.args.piece.now in
    let k = kept (goal.at.returns-in_default-clause-cut c).After-feed-n in
    let n = c.feed-n.result in
    let none : drop n p ≡ [] = none_left n p (f.all (none_whole k c.feed-n.new.self p f.held c.in_default.ensures)) in
    let rest = c.clear.ensures.items ∙ (sym none ∙ ap (λ m. drop m p) f.taken) in
    piece_cut k c.args.self.now c.self.view_is c.feed-n.new.self p c.clear.new.self.items c.args.now c.self.inside.clock f.held rest
    (ap (λ b. cond b c.args.now c.self.inside.clock) (sym (no_line k c.feed-n.new.self p f.held c.in_default.ensures)))

pub returns-clause-cut : goal.returns-clause-cut
returns-clause-cut c =
    let f = c.feed-n.ensures in
    let p = c.args.piece.now in
    let k = kept (goal.at.returns-clause-cut c).After-feed-n in
    let n = c.feed-n.result in
    let line = has_line k c.feed-n.new.self p _ f.held c.in-Some.ensures in
    let slice : take (length p - n) (drop n p) ≡ drop n p = take_all (length p - n) (drop n p) (omega (arith, length-drop n p)) in
    let grown : c.extend_from_slice.new.self.items ≡ take (length p - n) (drop n p) = search rules in
    let rest : c.extend_from_slice.new.self.items ≡ drop (through_newline p) p = (grown ∙ slice) ∙ ap (λ m. drop m p) f.taken in
    piece_cut k c.args.self.now c.self.view_is c.feed-n.new.self p c.extend_from_slice.new.self.items c.args.now c.args.now f.held rest (ap (λ b. cond b c.args.now c.self.inside.clock) (sym line))

pub returns-in_err-extend_from_slice-clause-err : goal.returns-in_err-extend_from_slice-clause-err
returns-in_err-extend_from_slice-clause-err c =
    let k = kept (goal.at.returns-in_err-extend_from_slice-clause-err c).After-feed-n in
    err_or_not c.from_residual.result (has_line k c.feed-n.new.self c.args.piece.now _ c.feed-n.ensures.held c.in-Some.ensures)
