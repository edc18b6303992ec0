use Rattle.std.proofs.Common.{refl}
use Rattle.serving.proofs.Depositing.{tried_none}
use Rattle.serving.proofs.Trying.{tries_none, tries_one}
use Rattle.serving.proofs.server.Server.serve_spool.Goals as goal

pub returns-in_default-clause-tried : goal.returns-in_default-clause-tried
returns-in_default-clause-tried g c = λ T acts s h clean.
    tried_none g.V.Vault.holds g.S.Spool.tells T acts c.args.self.now.office c.next_name.new.self s (c.next_name.ensures.told acts h)

pub returns-in_default-clause-works : goal.returns-in_default-clause-works
returns-in_default-clause-works g c =
    record {
      wire = refl;
      listener = refl;
      part =
          tries_none g.V.Vault g.S.Spool.asked c.args.self.now.office
          c.args.spool.now c.next_name.new.self c.args.clients.now.last c.in_default.ensures.called c.args.clients.now.poll_now;
    }

pub returns-clause-works : goal.returns-clause-works
returns-clause-works g c =
    record {
      wire = c.try_file-is_dealt.ensures.works.wire;
      listener = c.try_file-is_dealt.ensures.works.listener;
      part =
          tries_one g.V.Vault g.S.Spool.asked c.args.self.now.office
          c.try_file-is_dealt.new.self.office c.args.spool.now c.next_name.new.self c.try_file-is_dealt.new.spool c.args.clients.now.last c.in-Some.name
          c.args.clients.now.poll_now c.try_file-is_dealt.result c.in-Some.ensures.called c.try_file-is_dealt.ensures.works.part;
    }
