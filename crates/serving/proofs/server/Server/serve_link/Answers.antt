use Rattle.std.proofs.Common.{rules, arith, ◌≡◌, ◌∷◌, [], ◌++◌, ◌+◌, true, false, ◌||◌, ◌∙◌, length, refl, sym, ap, subst, inl, inr, true≢false}
use Rattle.serving.specs.Parts.{Does, Also, PollsBy}
use Rattle.serving.specs.ClientParts.{IsWrittenOut, HadTurns, way_at}
use Rattle.serving.specs.InOrder.{ServesSeat}
use Rattle.serving.proofs.Ordered.{serves_then, serves_less}
use Rattle.serving.proofs.Composing.{does_so, does_then}
use Rattle.serving.proofs.Working.{or_true}
use Rattle.serving.specs.Works.{has_moved}
use Rattle.serving.proofs.Awaiting.{awaits_own, prepared_before, prepares_polled, prepares_same, served_kept, written_looked}
use Rattle.serving.proofs.Turns.{served_written, served_one, served_then}
use Rattle.serving.proofs.Resting.{polled_moved, polled_behind, polled_more, polled_then, shared_moved, is_left, is_right}
use Rattle.serving.proofs.Settling.{not_unread}
use Rattle.serving.proofs.server.Server.serve_link.Goals as goal

pub returns-then-write_owed-clause-works : goal.returns-then-write_owed-clause-works
returns-then-write_owed-clause-works g c =
    let s = c.args.self.now in
    let x = c.write_owed in
    let s1 = x.new.self in
    let clients = c.args.clients.now in
    let way = way_at c.args.now clients c.args.quits.now.is_preparing (clients.poll_now || true) in
    let goes : x.result ≡ true = search rules in
    let out = subst (λ b. Does g.V.Vault g.W.Wire g.L.Listener s s1 (IsWrittenOut g.V.Vault.holds g.V.Vault.is_clean s.office s1.office c.args.seat way.share b)) goes
    (subst (λ n. Does g.V.Vault g.W.Wire g.L.Listener s s1 (IsWrittenOut g.V.Vault.holds g.V.Vault.is_clean s.office s1.office c.args.seat n x.result)) c.share_of-share.ensures x.ensures.works) in
    does_so g.V.Vault g.W.Wire g.L.Listener s s1 _ _ (λ gv cl wa a. (
      record {
        turns = served_written g.V.Vault s.office s1.office way c.settle.new.self.newcomers.items c.args.seat gv cl (or_true clients.poll_now)
            (not_unread c.args.seat.connection c.args.now clients.newcomers.newcomers.items c.settle.new.self.newcomers.items c.settle.ensures.newcomers) a;
        served = serves_less c.args.seat 0 64 1 128 gv cl (omega arith) (omega arith) a.served;
        awaits = λ e. inl e;
      },
      polled_moved (clients.poll_now || c.args.quits.now.is_preparing) (clients.poll_now || true) cl (shared_moved c.args.seat.link (length clients.seats.items) cl (a.goes_on refl)),
    )) out

pub returns-then-keeps_quit-clause-works : goal.returns-then-keeps_quit-clause-works
returns-then-keeps_quit-clause-works g c =
    let s = c.args.self.now in
    let seat = c.args.seat in
    let x = c.write_owed in
    let q = c.keeps_quit in
    let s1 = x.new.self in
    let s2 = q.new.self in
    let kept : q.result ≡ true = search rules in
    let ends : x.result ≡ false = search rules in
    let preparing : q.new.quits.is_preparing ≡ true = q.ensures.kept kept in
    let clients = c.args.clients.now in
    let noted = c.settle-then-keeps_quit.new.self.newcomers.items in
    let way = way_at c.args.now clients q.new.quits.is_preparing (clients.poll_now || true) in
    let out = subst (λ b. Does g.V.Vault g.W.Wire g.L.Listener s s1 (IsWrittenOut g.V.Vault.holds g.V.Vault.is_clean s.office s1.office seat way.share b)) ends
    (subst (λ n. Does g.V.Vault g.W.Wire g.L.Listener s s1 (IsWrittenOut g.V.Vault.holds g.V.Vault.is_clean s.office s1.office seat n x.result)) c.share_of-share.ensures x.ensures.works) in
    does_then g.V.Vault g.W.Wire g.L.Listener s s1 s2 _ _ _
    (λ g1 g2 c1 c2 wa wb a b. (
      record {
        turns = served_kept g.V.Vault s.office s1.office s2.office seat way.share way noted g1 g2 c1 c2 q.result kept preparing
            (not_unread seat.connection c.args.now clients.newcomers.newcomers.items noted c.settle-then-keeps_quit.ensures.newcomers) wa wb.clean a b;
        served = serves_less seat 0 64 1 128 (g2 ++ g1) (c1 ++ c2) (omega arith) (omega arith)
            (written_looked g.V.Vault s.office s1.office s2.office seat way.share g1 g2 c1 c2 q.result wb.clean a b).served;
        awaits = λ e. inr (awaits_own g.V.Vault s.office s1.office s2.office seat way.share g1 g2 c1 c2 q.result kept wa wb.clean a b);
      },
      λ e. is_left (clients.poll_now || q.new.quits.is_preparing) (has_moved (c1 ++ c2)) (is_right clients.poll_now q.new.quits.is_preparing preparing),
    )) out q.ensures.works

pub returns-then-not-read_piece-clause-works : goal.returns-then-not-read_piece-clause-works
returns-then-not-read_piece-clause-works g c =
    let s = c.args.self.now in
    let seat = c.args.seat in
    let x = c.write_owed in
    let q = c.keeps_quit in
    let y = c.read_piece in
    let s1 = x.new.self in
    let sq = q.new.self in
    let noted = y.new.clients in
    let was = c.args.quits.now.is_preparing in
    let now = q.new.quits.is_preparing in
    let none : y.result ≡ false = search rules in
    let unkept : q.result ≡ false = search rules in
    let ends : x.result ≡ false = search rules in
    let clients = c.args.clients.now in
    let way = way_at c.args.now clients now (noted.poll_now || false) in
    let written = subst (λ b. Does g.V.Vault g.W.Wire g.L.Listener s s1 (IsWrittenOut g.V.Vault.holds g.V.Vault.is_clean s.office s1.office seat way.share b)) ends
    (subst (λ n. Does g.V.Vault g.W.Wire g.L.Listener s s1 (IsWrittenOut g.V.Vault.holds g.V.Vault.is_clean s.office s1.office seat n x.result)) c.share_of-share.ensures x.ensures.works) in
    let out : Does g.V.Vault g.W.Wire g.L.Listener s sq (IsWrittenOut g.V.Vault.holds g.V.Vault.is_clean s.office sq.office seat way.share false) =
    does_then g.V.Vault g.W.Wire g.L.Listener s s1 sq _ _ _
    (λ g1 g2 c1 c2 wa wb a b. written_looked g.V.Vault s.office s1.office sq.office seat way.share g1 g2 c1 c2 q.result wb.clean a b) written q.ensures.works in
    does_then g.V.Vault g.W.Wire g.L.Listener s sq y.new.self _ _ _
    (λ g1 g2 c1 c2 wa wb a b. (
      record {
        turns = served_one g.V.Vault s.office sq.office y.new.self.office way noted.newcomers.newcomers.items seat g1 g2 c1 c2 wa wb a b.0;
        served = serves_less seat (0 + 1) (64 + 0) 1 128 _ _ (omega arith) (omega arith) (serves_then seat 0 64 1 0 g1 g2 c1 c2 a.served b.0.served);
        awaits = λ e. inl (prepared_before was now q.result unkept q.ensures.prepares e);
      },
      polled_more clients.poll_now (clients.poll_now || now) (noted.poll_now || false) (c1 ++ c2) (λ e. is_left clients.poll_now now e)
          (polled_behind clients.poll_now (noted.poll_now || y.result) (noted.poll_now || false) c1 c2 (λ e. ap (λ b. noted.poll_now || b) none ∙ e) b.1),
    )) out y.ensures.works

pub returns-clause-works : goal.returns-clause-works
returns-clause-works g c =
    let Holds = g.V.Vault.holds in
    let IsClean = g.V.Vault.is_clean in
    let s = c.args.self.now in
    let seat = c.args.seat in
    let x = c.write_owed in
    let q = c.keeps_quit in
    let y = c.read_piece in
    let z = c.write_owed-2 in
    let s1 = x.new.self in
    let sq = q.new.self in
    let s2 = y.new.self in
    let s3 = z.new.self in
    let noted = y.new.clients in
    let was = c.args.quits.now.is_preparing in
    let now = q.new.quits.is_preparing in
    let came : y.result ≡ true = search rules in
    let unkept : q.result ≡ false = search rules in
    let ends : x.result ≡ false = search rules in
    let clients = c.args.clients.now in
    let way = way_at c.args.now clients now (noted.poll_now || z.result) in
    let written = subst (λ b. Does g.V.Vault g.W.Wire g.L.Listener s s1 (IsWrittenOut Holds IsClean s.office s1.office seat way.share b)) ends
    (subst (λ n. Does g.V.Vault g.W.Wire g.L.Listener s s1 (IsWrittenOut Holds IsClean s.office s1.office seat n x.result)) c.share_of-share.ensures x.ensures.works) in
    let out : Does g.V.Vault g.W.Wire g.L.Listener s sq (IsWrittenOut Holds IsClean s.office sq.office seat way.share false) =
    does_then g.V.Vault g.W.Wire g.L.Listener s s1 sq _ _ _
    (λ g1 g2 c1 c2 wa wb a b. written_looked g.V.Vault s.office s1.office sq.office seat way.share g1 g2 c1 c2 q.result wb.clean a b) written q.ensures.works in
    let first : Does g.V.Vault g.W.Wire g.L.Listener s s2
    (Also (λ gv cl. HadTurns Holds IsClean s.office s2.office way noted.newcomers.newcomers.items (seat ∷ []) (seat ∷ []) gv cl × ServesSeat seat (0 + 1) (64 + 0) gv cl)
    (PollsBy clients.poll_now true)) =
    does_then g.V.Vault g.W.Wire g.L.Listener s sq s2 _ _ _
    (λ g1 g2 c1 c2 wa wb a b. (
      (
        served_one g.V.Vault s.office sq.office s2.office way noted.newcomers.newcomers.items seat g1 g2 c1 c2 wa wb a b.0,
        serves_then seat 0 64 1 0 g1 g2 c1 c2 a.served b.0.served,
      ),
      polled_behind clients.poll_now (noted.poll_now || y.result) true c1 c2 (λ e. is_right noted.poll_now y.result came) b.1,
    )) out y.ensures.works in
    does_then g.V.Vault g.W.Wire g.L.Listener s s2 s3 _ _ _
    (λ g1 g2 c1 c2 wa wb a b. (
      record {
        turns = served_then g.V.Vault s.office s2.office s3.office way noted.newcomers.newcomers.items
            seat g1 g2 c1 c2 wa wb a.0.0 b.of_seat b.offered;
        served = serves_less seat (1 + 0) (64 + 64) 1 128 _ _ (omega arith) (omega arith) (serves_then seat 1 64 0 64 g1 g2 c1 c2 a.0.1 b.served);
        awaits = λ e. inl (prepared_before was now q.result unkept q.ensures.prepares e);
      },
      polled_more clients.poll_now (clients.poll_now || now) (noted.poll_now || z.result) (c1 ++ c2) (λ e. is_left clients.poll_now now e)
          (polled_then clients.poll_now true (noted.poll_now || z.result) c1 c2 a.1 (λ e. refl)),
    )) first z.ensures.works

pub returns-then-write_owed-clause-prepares : goal.returns-then-write_owed-clause-prepares
returns-then-write_owed-clause-prepares g c = prepares_same c.args.quits.now.is_preparing _

pub returns-then-keeps_quit-clause-prepares : goal.returns-then-keeps_quit-clause-prepares
returns-then-keeps_quit-clause-prepares g c =
    prepares_polled c.args.quits.now.is_preparing c.keeps_quit.new.quits.is_preparing c.keeps_quit.result _ (λ e. or_true c.args.clients.now.poll_now) c.keeps_quit.ensures.prepares

pub returns-then-not-read_piece-clause-prepares : goal.returns-then-not-read_piece-clause-prepares
returns-then-not-read_piece-clause-prepares g c =
    let q = c.keeps_quit in
    let unkept : q.result ≡ false = search rules in
    prepares_polled c.args.quits.now.is_preparing q.new.quits.is_preparing q.result _ (λ e. absurd (true≢false (sym e ∙ unkept))) q.ensures.prepares

pub returns-clause-prepares : goal.returns-clause-prepares
returns-clause-prepares g c =
    let q = c.keeps_quit in
    let unkept : q.result ≡ false = search rules in
    prepares_polled c.args.quits.now.is_preparing q.new.quits.is_preparing q.result _ (λ e. absurd (true≢false (sym e ∙ unkept))) q.ensures.prepares

pub returns-then-keeps_quit-clause-settles : goal.returns-then-keeps_quit-clause-settles
returns-then-keeps_quit-clause-settles g c = record { lies = false; is = c.settle-then-keeps_quit.ensures.newcomers }

pub returns-then-write_owed-clause-settles : goal.returns-then-write_owed-clause-settles
returns-then-write_owed-clause-settles g c = record { lies = false; is = c.settle.ensures.newcomers }

pub returns-then-write_owed-clause-counts : goal.returns-then-write_owed-clause-counts
returns-then-write_owed-clause-counts g c = record { same = refl; left = λ e. inl e }
