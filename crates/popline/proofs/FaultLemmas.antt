-- A fault is named if no command is spelled.
use Rattle.std.proofs.Common.{◌≡◌, ℕ, List, refl, sym, ◌∙◌, subst, Option, Some, None, Result, Ok, Err, ok_or}
use Rattle.std.specs.List.{before_first}
use Rattle.popline.specs.declared.command.Keyword.{Keyword}
use Rattle.popline.specs.declared.command.LineFault.{LineFault}
use Rattle.popline.specs.declared.command.LineFault.TheVariants.{Unknown, Syntax}
use Rattle.popline.specs.Commands.{Command, keyword_in, keywords, is_space, command_with, command_by}
use Rattle.popline.specs.Spelling.{word_of, IsWord, IsFault, NamesTheFault}
use Rattle.popline.proofs.ReadLemmas.{keyword_found, reads_what_is_spelled}
use Rattle.popline.proofs.SpellLemmas.{word_found}

fault_of_keyword : (line : List ℕ) (fault : LineFault) (o : Option Keyword) → keyword_in keywords (before_first is_space line) ≡ o → command_by o line ≡ Err fault → IsFault fault line
fault_of_keyword line fault None h e =
    let same : Unknown ≡ fault = cc in
    subst (λ (f : LineFault). IsFault f line) same
    (λ (k : Keyword) (word : IsWord (word_of k) (before_first is_space line)). let wrong : ◌≡◌ {A = Option Keyword} None (Some k) = sym h ∙ keyword_found k (before_first is_space line) word in cc)
fault_of_keyword line fault (Some k) h e = by_command (command_with k line) e
  where
    by_command : (o : Option Command) → ok_or o (Syntax k) ≡ Err fault → IsFault fault line
    by_command (Some c) f = let wrong : ◌≡◌ {A = Result Command LineFault} (Ok c) (Err fault) = f in cc
    by_command None f =
        let same : Syntax k ≡ fault = cc in
        subst (λ (x : LineFault). IsFault x line) same (word_found (before_first is_space line) k h)

pub names_the_fault : NamesTheFault
names_the_fault fault line e = (
  fault_of_keyword line fault (keyword_in keywords (before_first is_space line)) refl e,
  λ c spelled. let wrong : ◌≡◌ {A = Result Command LineFault} (Ok c) (Err fault) = sym (reads_what_is_spelled c line spelled) ∙ e in cc,
)
