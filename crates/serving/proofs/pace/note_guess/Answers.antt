use Rattle.std.proofs.Common.{refl, sym, subst}
use Rattle.serving.specs.Guesses.{ArePacing}
use Rattle.serving.proofs.Composing.{set_slow}
use Rattle.serving.proofs.Pacing.{pacing_more, pacing_without}
use Rattle.serving.proofs.pace.note_guess.Goals as goal

pub returns-then-refusals-before-clause-keeps : goal.returns-then-refusals-before-clause-keeps
returns-then-refusals-before-clause-keeps g c =
    let old = c.args.clients.now in
    record {
      keeps = record {
        keeps = record {
          set = set_slow old.wait old.newcomers.seconds old.make_room old.guesses.are_slow _ c.refuse.ensures.slow;
          last = refl;
          polled = λ e. e;
          pacing = λ h. subst ArePacing (sym c.refuse.ensures.refusals) (pacing_more _ _ _ _ h);
        };
        seats = refl;
      };
      newcomers = refl;
      lock_released = refl;
      poll_now = refl;
    }

pub returns-then-is_logged_in-clause-keeps : goal.returns-then-is_logged_in-clause-keeps
returns-then-is_logged_in-clause-keeps g c =
    let old = c.args.clients.now in
    record {
      keeps = record {
        keeps = record {
          set = set_slow old.wait old.newcomers.seconds old.make_room old.guesses.are_slow _ c.forget.ensures.slow;
          last = refl;
          polled = λ e. e;
          pacing = λ h. subst ArePacing (sym c.forget.ensures.refusals) (pacing_without _ _ _ h);
        };
        seats = refl;
      };
      newcomers = refl;
      lock_released = refl;
      poll_now = refl;
    }
