use Rattle.sqlvault.proofs.sql_vault.take.Goals as goal

pub returns-in-Ok-clause-adopted : goal.returns-in-Ok-clause-adopted
returns-in-Ok-clause-adopted g c = λ clean. (c.in-Ok.ensures.clean clean, λ known. c.in-Ok.ensures.adopted clean known)

pub returns-in-Ok-clause-stop : goal.returns-in-Ok-clause-stop
returns-in-Ok-clause-stop g c = λ clean known up. c.in-Ok.ensures.stop clean known up

pub returns-in-Err-clause-refused : goal.returns-in-Err-clause-refused
returns-in-Err-clause-refused g c = (
  c.in-Err._conn,
  λ clean. (
    c.in-Err.ensures.clean clean,
    λ known. c.in-Err.ensures.adopted clean known,
    λ out older. (c.in-Err.ensures.carried clean older out, (c.in-Err.ensures.carried_stays clean older out, c.in-Err.ensures.carried_stop clean older out)),
    λ it. c.in-Err.ensures.unknown clean it,
  ),
)

pub returns-in-Ok-clause-carried : goal.returns-in-Ok-clause-carried
returns-in-Ok-clause-carried g c = λ clean older out. (c.in-Ok.ensures.carried clean older out, c.in-Ok.ensures.carried_stop clean older out)

pub returns-in-Err-clause-kinds : goal.returns-in-Err-clause-kinds
returns-in-Err-clause-kinds g c = c.in-Err.ensures.kinds

pub returns-in-Ok-clause-uncounted : goal.returns-in-Ok-clause-uncounted
returns-in-Ok-clause-uncounted g c = c.in-Ok.ensures.uncounted

pub returns-in-Ok-clause-known_version : goal.returns-in-Ok-clause-known_version
returns-in-Ok-clause-known_version g c = λ clean it. c.in-Ok.ensures.unknown clean it
