-- lines read one at a time
use Rattle.std.proofs.Common.{◌≡◌, ℕ, ◌+◌, ◌<◌, true, false, Option, Some, None, List, [], ◌∷◌, ◌++◌, length, map, sym, ap, ◌∙◌, subst, arith}
use Rattle.std.specs.Prelude.{IfOk, IfSome, Ok, Result}
use Rattle.std.specs.Io.BufRead.{DropsThrough, drop_through, take_through}
use Rattle.std.specs.Io.KnownBytes.{IsAtEnd}
use Rattle.bstr.specs.Records.{trim_record}
use Rattle.bstr.proofs.lemmas.RecordLemmas.{records-nil, records-step}
use Rattle.collate_merge.specs.Lines.{ReadsLine, lines_in}

pub read_line : (a b : Option (List ℕ)) (separator n : ℕ) (start got line : List ℕ) → start ≡ [] → length got ≡ length start + n → 0 < n → line ≡ trim_record separator got
    → IfSome a (λ xs. got ≡ start ++ take_through separator xs) → DropsThrough a b separator → IfSome a (λ bytes. ReadsLine separator bytes true line b)
read_line None b separator n start got line none long some is took dropped = tt
read_line (Some []) b separator n start got line none long some is took dropped = absurd (omega (arith, ap length took, ap length none, ap (λ (s : List ℕ). length (s ++ [])) none))
read_line (Some (x ∷ xs)) b separator n start got line none long some is took dropped =
    let through : got ≡ take_through separator (x ∷ xs) = took ∙ ap (λ (s : List ℕ). s ++ take_through separator (x ∷ xs)) none in (
      drop_through separator (x ∷ xs),
      dropped,
      ap (map (trim_record separator)) (records-step separator (x ∷ xs) (omega arith))
          ∙ ap (λ (l : List ℕ). l ∷ lines_in separator (drop_through separator (x ∷ xs))) (sym (is ∙ ap (trim_record separator) through)),
    )

pub read_none : {E : Type 0} (a b : Option (List ℕ)) (separator n : ℕ) (line : List ℕ) (result : Result ℕ E) → result ≡ Ok n → n ≡ 0
    → IfOk result (λ n. n ≡ 0 → IsAtEnd a) → IfSome a (λ bytes. ReadsLine separator bytes false line b)
read_none {E} None b separator n line result is none ended = tt
read_none {E} (Some xs) b separator n line result is none ended =
    let told : n ≡ 0 → xs ≡ [] = subst (λ (r : Result ℕ E). IfOk r (λ n. n ≡ 0 → IsAtEnd (Some xs))) is ended in
    ap (lines_in separator) (told none) ∙ ap (map (trim_record separator)) (records-nil separator)
