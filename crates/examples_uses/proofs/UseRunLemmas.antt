-- what a run over given commands has written
use Rattle.std.proofs.Common.{◌≡◌, ℕ, List, ◌++◌, Option, Some, ap, sym, subst, ◌∙◌, append-nil}
use Rattle.std.specs.Prelude.{Result, Ok, Err, IfSome}
use Rattle.std.specs.Io.KnownBytes.{Appends}
use Rattle.std.specs.Result.{result_ok}
use Rattle.collate_index.specs.Catalogue.{Catalogue}
use Rattle.collate_run.specs.Replies.{AreReplies}
use Rattle.collate_run.specs.Runs.{Ran, lines_of}
use Rattle.collate_run.specs.declared.run.RunFault.{RunFault}

-- the replies to commands, which a writer got
abbrev pub Replies : Catalogue → List ℕ → Option (List ℕ) → Option (List ℕ) → Type 0
Replies start commands old new = (replies : List ℕ) × AreReplies start (lines_of commands) replies × Appends old new replies

-- a run that ended well read all commands
pub replied : (start other : Catalogue) (result : Result (Unit {0}) RunFault) (answer : Option (Unit {0})) (commands given left : List ℕ) (old new : Option (List ℕ))
    → start ≡ other → answer ≡ result_ok result → given ≡ commands → Ran start result (Some given) (Some left) old new
    → IfSome answer (λ _. Replies other commands old new)
replied start other (Ok done) answer commands given left old new opens is same ran =
    let whole : ran.taken ≡ commands = sym (append-nil ran.taken) ∙ ap (λ (rest : List ℕ). ran.taken ++ rest) (sym ran.does.1) ∙ sym ran.consumes ∙ same in
    let replies : AreReplies start (lines_of commands) ran.out = subst (λ (bytes : List ℕ). AreReplies start (lines_of bytes) ran.out) whole ran.does.0 in
    subst (λ (o : Option (Unit {0})). IfSome o (λ _. Replies other commands old new)) (sym is)
    (ran.out, subst (λ (s : Catalogue). AreReplies s (lines_of commands) ran.out) opens replies, ran.appends)
replied start other (Err fault) answer commands given left old new opens is same ran =
    subst (λ (o : Option (Unit {0})). IfSome o (λ _. Replies other commands old new)) (sym is) tt
