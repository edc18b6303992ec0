use Rattle.std.proofs.Common.{◌≡◌, ◌⊎◌, ◌||◌, ◌==◌, ◌∷◌, [], true, false, refl, sym, subst, ap, ◌∙◌}
use Rattle.office.specs.Trace.{history}
use Rattle.office.specs.Sessions.{live}
use Rattle.serving.specs.Paces.{releases_lock}
use Rattle.serving.specs.Settings.{Settings}
use Rattle.serving.specs.ClientParts.{HadTurns, way_at}
use Rattle.serving.proofs.Composing.{does_so}
use Rattle.serving.proofs.Turns.{served_so}
use Rattle.serving.proofs.Awaiting.{prepares_polled}
use Rattle.serving.proofs.Resting.{client_polled, polled_more, or_joined, is_left}
use Rattle.serving.proofs.server.Server.serve_client.Goals as goal

pub returns-clause-keeps : goal.returns-clause-keeps
returns-clause-keeps g c =
    let a = c.serve_link-more.ensures.keeps in
    let b = c.note_release.ensures.keeps in
    record {
      keeps = record {
        set = b.keeps.set ∙ a.keeps.set;
        last = b.keeps.last ∙ a.keeps.last;
        polled = λ e. b.keeps.polled (is_left c.serve_link-more.new.clients.poll_now c.serve_link-more.result (a.keeps.polled e));
        pacing = λ h. b.keeps.pacing (a.keeps.pacing h);
      };
      seats = b.seats ∙ a.seats;
    }

pub returns-clause-releases : goal.returns-clause-releases
returns-clause-releases g c =
    let x = c.serve_link-more in
    let n = c.note_release in
    let old = c.args.clients.now in
    let q = c.args.seat.connection in
    let wait : x.new.clients.wait ≡ old.wait = ap (λ (s : Settings). s.wait) x.ensures.keeps.keeps.set in
    let lock_released : x.new.clients.lock_released ≡ old.lock_released = x.ensures.lock_released in
    record {
      more = record {
        still = λ e. n.ensures.more.still (lock_released ∙ e);
        waits = λ e. subst (λ w. (old.lock_released ≡ true) ⊎ ((w == 0) ≡ false)) wait (subst (λ b. (b ≡ true) ⊎ ((x.new.clients.wait == 0) ≡ false)) lock_released (n.ensures.more.waits e));
        poll_now = λ e. subst (λ b. (b ≡ true) ⊎ (n.new.clients.poll_now ≡ true)) lock_released (n.ensures.more.poll_now e);
      };
      is = λ T U s u.
          n.ensures.lock_released U u
          ∙ (ap (λ b. b || releases_lock x.new.clients.wait c.is_logged_in-was_logged_in.result (live (history U) q)) lock_released
          ∙ (ap (λ w. old.lock_released || releases_lock w c.is_logged_in-was_logged_in.result (live (history U) q)) wait
          ∙ ap (λ b. old.lock_released || releases_lock old.wait b (live (history U) q)) (c.is_logged_in-was_logged_in.ensures T s)));
    }

pub returns-clause-works : goal.returns-clause-works
returns-clause-works g c =
    let Holds = g.V.Vault.holds in
    let IsClean = g.V.Vault.is_clean in
    let s = c.args.self.now in
    let x = c.serve_link-more in
    let s1 = x.new.self in
    let n = c.note_release.new.clients in
    let clients = c.args.clients.now in
    let now = c.args.now in
    let seat = c.args.seat in
    let preparing = x.new.quits.is_preparing in
    does_so g.V.Vault g.W.Wire g.L.Listener s s1 _ _ (λ gv cl wa a. (
      record {
        turns = served_so g.V.Vault s.office s1.office
            (way_at now clients preparing (x.new.clients.poll_now || x.result)) (way_at now clients preparing n.poll_now) n.newcomers.newcomers.items (seat ∷ [])
            (seat ∷ []) gv cl refl refl (λ e. e) (λ i d within e. e) (λ e. e) c.note_release.ensures.keeps.keeps.polled
            (subst (λ m. HadTurns Holds IsClean s.office s1.office (way_at now clients preparing (x.new.clients.poll_now || x.result)) m.newcomers.items (seat ∷ []) (seat ∷ []) gv cl)
            (sym c.note_release.ensures.newcomers) a.0.turns);
        served = a.0.served;
        awaits = a.0.awaits;
      },
      polled_more ((clients.poll_now || preparing) || n.lock_released) (clients.poll_now || (preparing || n.lock_released)) n.poll_now cl
          (or_joined clients.poll_now preparing n.lock_released)
          (client_polled (clients.poll_now || preparing) (x.new.clients.poll_now || x.result) n.lock_released n.poll_now cl a.1 c.note_release.ensures.poll_now),
    )) x.ensures.works

pub returns-clause-settles : goal.returns-clause-settles
returns-clause-settles g c =
    let x = c.serve_link-more.ensures.settles in
    record { lies = x.lies; is = ap (λ m. m.newcomers.items) c.note_release.ensures.newcomers ∙ x.is }

pub returns-clause-prepares : goal.returns-clause-prepares
returns-clause-prepares g c =
    let x = c.serve_link-more in
    prepares_polled c.args.quits.now.is_preparing x.new.quits.is_preparing (x.new.clients.poll_now || x.result) c.note_release.new.clients.poll_now
    c.note_release.ensures.keeps.keeps.polled x.ensures.prepares
