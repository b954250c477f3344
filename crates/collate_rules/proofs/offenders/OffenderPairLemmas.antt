-- Lines that compose the same two characters.
use Rattle.std.proofs.Common.{◌≡◌, ℕ, ◌+◌, ◌<◌, Bool, false, ◌||◌, List, [], ◌∷◌, length, get_or, take, map, refl, sym, ap, ◌∙◌, below_more, Option, Some, None, ◌≤◌, ⊎_elim, inl, inr}
use Rattle.std.proofs.lemmas.Bool.{false≢true, cases_lt, false_from_ne_true}
use Rattle.std.proofs.lemmas.List.{take-map}
use Rattle.std.specs.List.{list_any}
use Rattle.icu_normalizer_core.specs.BuiltIn.{is_within}
use Rattle.collate_lines.specs.declared.record.Record.{Record as Line}
use Rattle.collate_lines.specs.Record.{Record, said}
use Rattle.collate_lines.specs.Repeats.{record_at}
use Rattle.collate_rules.specs.Rules.{RepeatsPair, is_same_pair, pair_in, HasBadSecond}
use Rattle.collate_rules.proofs.offenders.LineRuleLemmas.{record_at-said}

-- whether lines compose the two characters of another
abbrev any_same : Record → List Record → Bool
any_same given records = list_any (λ s. is_same_pair (pair_in s) (pair_in given)) records

-- what is asked of the lines before line i, with line i read as x
pub repeats_at : (lines before : List Line) (i : ℕ) (x : Line) → i < length lines → x ≡ get_or lines i x → before ≡ take i lines
    → any_same (said x) (map said before) ≡ any_same (record_at (map said lines) i) (take i (map said lines))
repeats_at lines before i x within read e =
    let line : record_at (map said lines) i ≡ said x = record_at-said lines i x within ∙ ap said (sym read) in
    ap (λ l. any_same (said x) (map said l)) e
    ∙ ap (any_same (said x)) (sym (take-map said i lines))
    ∙ ap (λ r. any_same r (take i (map said lines))) (sym line)

-- a line that composes nothing composes no pair of another
same_as_none : (o : Option (ℕ × ℕ)) → is_same_pair o None ≡ false
same_as_none (Some p) = refl
same_as_none None = refl

no_same : (records : List Record) → list_any (λ s. is_same_pair (pair_in s) None) records ≡ false
no_same [] = refl
no_same (s ∷ records) = ap (λ (b : Bool). b || list_any (λ r. is_same_pair (pair_in r) None) records) (same_as_none (pair_in s)) ∙ no_same records

pub none_same : (given : Record) (records : List Record) → None ≡ pair_in given → false ≡ any_same given records
none_same given records e =
    sym (ap (λ (o : Option (ℕ × ℕ)). list_any (λ s. is_same_pair (pair_in s) o) records) (sym e) ∙ no_same records)

-- no line up to line i composes a pair again
pub none_more : (lines before : List Line) (i : ℕ) (x : Line) (b : Bool) → i < length lines → x ≡ get_or lines i x → before ≡ take i lines
    → b ≡ any_same (said x) (map said before) → b ≡ false
    → ((k : ℕ) → k < i → RepeatsPair (map said lines) k → ⊥) → (k : ℕ) → k < i + 1 → RepeatsPair (map said lines) k → ⊥
none_more lines before i x b within read e is unset earlier =
    below_more (λ k. RepeatsPair (map said lines) k → ⊥) i earlier
    (λ again. false≢true (sym unset ∙ is ∙ repeats_at lines before i x within read e ∙ again))

-- a second that is not a bad one is from U+0300 on, and no vowel or final consonant of Hangul
pub good_second : (a b : ℕ) → (HasBadSecond (Some (a, b)) → ⊥) → (0x300 ≤ b) × (is_within 0x1161 0x11ff b ≡ false)
good_second a b good =
    (⊎_elim (λ low. absurd (good (inl low))) (λ high. high) (cases_lt b 0x300), false_from_ne_true _ (λ letter. good (inr letter)))
