use Rattle.std.proofs.Common.{Bool, is_some, ◌∙◌, ap}
use Rattle.popline.specs.Cutting.{Held, fed}
use Rattle.popline.specs.Seen.{cut_seen}
use Rattle.office.specs.Connections.{reading}
use Rattle.office.specs.Kept.{Kept}
use Rattle.office.specs.Waiting.{brought_by}
use Rattle.office.proofs.Keeping.{has_line, is_line, no_line}
use Rattle.office.proofs.MeetingLocks.{brings_line, brings_none}
use Rattle.office.proofs.connection.Connection.brings.Goals as goal

pub returns : goal.returns
returns c =
    let v = c.self.view_is in
    let p = c.args.piece.now in
    let k : Kept = c.args.self.now in
    let x = cut_seen c.in-Some.cut in
    let user = c.self.inside.state.user in
    let held = c.copied-cutter.ensures ∙ ap (λ (k : Kept). k.held) v in
    let fed_is = c.feed-fed.ensures.held ∙ ap (λ (h : Held). fed h p) held in
    let there = has_line k c.feed-fed.new.self p x fed_is c.in-Some.ensures in
    let same = is_line k c.feed-fed.new.self p x fed_is c.in-Some.ensures in
    c.brought_by.ensures ∙ (ap (λ y. brought_by c.is_some.result user (reading y)) c.read.ensures
    ∙ (ap (λ (b : Bool). brought_by b user (reading x)) c.is_some.ensures
    ∙ (ap (λ (k : Kept). brought_by (is_some k.session) k.state.user (reading x)) v
    ∙ brings_line (is_some k.session) k.state.user k p x there same)))

pub returns-in_default : goal.returns-in_default
returns-in_default c =
    let v = c.self.view_is in
    let p = c.args.piece.now in
    let k : Kept = c.args.self.now in
    let held = c.copied-cutter.ensures ∙ ap (λ (k : Kept). k.held) v in
    let fed_is = c.feed-fed.ensures.held ∙ ap (λ (h : Held). fed h p) held in
    let none = no_line k c.feed-fed.new.self p fed_is c.in_default.ensures in
    brings_none (is_some k.session) k.state.user k p none
