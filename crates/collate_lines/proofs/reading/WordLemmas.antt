-- One field, a word among some.
use Rattle.std.proofs.Common.{◌≡◌, ℕ, Bool, true, false, List, [], ◌∷◌, length, get_or, Bor, Option, Some, refl, sym, ap, ◌∙◌, bytes_eq, arith}
use Rattle.std.specs.Prelude.{if◌then◌else◌}
use Rattle.collate_lines.specs.Grammar.{word_among}
use Rattle.collate_lines.proofs.reading.FormLemmas.{bytes_of}

-- one field alone
pub one_value : (values : List (Bor (List ℕ))) (d : Bor (List ℕ)) → length values ≡ 1 → bytes_of values ≡ (get_or values 0 d).now ∷ []
one_value [] d h = absurd (cc)
one_value (v ∷ []) d h = refl
one_value (v ∷ w ∷ values) d h = absurd (omega arith)

-- what a test of the field says
pub tested : (value word text : List ℕ) (r b : Bool) → r ≡ bytes_eq value text → text ≡ word → r ≡ b → bytes_eq value word ≡ b
tested value word text r b e s is = ap (bytes_eq value) (sym s) ∙ sym e ∙ is

-- the field is the first of these words
pub word_here : {A : Type 0} (word value : List ℕ) (a : A) (words : List (List ℕ × A)) (values : List (List ℕ)) → values ≡ value ∷ [] → bytes_eq value word ≡ true
    → Some a ≡ word_among ((word, a) ∷ words) values
word_here {A} word value a words values one is =
    sym (ap (word_among ((word, a) ∷ words)) one ∙ ap (λ (b : Bool). if b then Some a else word_among words (value ∷ [])) is)

-- it isn't
pub word_later : {A : Type 0} (word value : List ℕ) (a : A) (words : List (List ℕ × A)) (values : List (List ℕ)) (o : Option A) → values ≡ value ∷ [] → bytes_eq value word ≡ false
    → o ≡ word_among words values → o ≡ word_among ((word, a) ∷ words) values
word_later {A} word value a words values o one is later =
    later ∙ ap (word_among words) one
    ∙ sym (ap (word_among ((word, a) ∷ words)) one ∙ ap (λ (b : Bool). if b then Some a else word_among words (value ∷ [])) is)
