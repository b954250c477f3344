-- What is noted of the texts that lines record, looked up and added to.
use Rattle.std.proofs.Common.{◌≡◌, ℕ, Bool, true, false, ◌==◌, ◌&&◌, ◌||◌, List, [], ◌∷◌, Option, Some, None, refl, sym, ◌∙◌, ap}
use Rattle.std.specs.Prelude.{bytes_eq}
use Rattle.std.specs.BTreeSet.{BTreeSet, contains}
use Rattle.std.specs.Ordering.{nat_cmp}
use Rattle.std.proofs.Math.Bool.{or-false}
use Rattle.collate_rules.specs.RecordedTexts.{Keys, has_key, has_text, lone_of}
use Rattle.collate_rules.specs.declared.texts.Texts.{Texts}

-- ---- Texts of one character, and others

and_false : (b : Bool) → (b && false) ≡ false
and_false true = refl
and_false false = refl

and_true : (b : Bool) → (b && true) ≡ b
and_true true = refl
and_true false = refl

pub lone_found : (texts : Texts) (prefix text : List ℕ) (c : ℕ) → Some c ≡ lone_of prefix text → contains nat_cmp texts.alone c ≡ has_text texts prefix text
lone_found texts [] [] c is = absurd (cc)
lone_found texts [] (d ∷ []) c is = ap (λ (o : Option ℕ). elim o [ Some e ↦ contains nat_cmp texts.alone e | None ↦ true ]) is
lone_found texts [] (d ∷ e ∷ ds) c is = absurd (cc)
lone_found texts (b ∷ bs) text c is = absurd (cc)

pub other_found : (texts : Texts) (prefix text : List ℕ) → None ≡ lone_of prefix text → has_key texts.beside prefix text ≡ has_text texts prefix text
other_found texts [] [] is = refl
other_found texts [] (d ∷ []) is = absurd (cc)
other_found texts [] (d ∷ e ∷ ds) is = refl
other_found texts (b ∷ bs) text is = refl

-- a character more
pub lone_put : (old : Texts) (alone : BTreeSet ℕ) (prefix text : List ℕ) (c : ℕ) → Some c ≡ lone_of prefix text
    → ((d : ℕ) → contains nat_cmp alone d ≡ (contains nat_cmp old.alone d || (d == c)))
    → (p t : List ℕ) → has_text (record old { alone = alone }) p t ≡ (has_text old p t || (bytes_eq p prefix && bytes_eq t text))
lone_put old alone [] [] c is put p t = absurd (cc)
lone_put old alone [] (d ∷ e ∷ ds) c is put p t = absurd (cc)
lone_put old alone (b ∷ bs) text c is put p t = absurd (cc)
lone_put old alone [] (d ∷ []) c is put [] [] = sym (or-false (has_key old.beside [] []))
lone_put old alone [] (d ∷ []) c is put [] (e ∷ []) =
    let same : c ≡ d = cc in
    put e ∙ ap (λ (x : ℕ). contains nat_cmp old.alone e || (e == x)) same ∙ ap (λ (b : Bool). contains nat_cmp old.alone e || b) (sym (and_true (e == d)))
lone_put old alone [] (d ∷ []) c is put [] (e ∷ f ∷ es) =
    sym (or-false (has_key old.beside [] (e ∷ f ∷ es))) ∙ ap (λ (b : Bool). has_key old.beside [] (e ∷ f ∷ es) || b) (sym (and_false (e == d)))
lone_put old alone [] (d ∷ []) c is put (b ∷ bs) t = sym (or-false (has_key old.beside (b ∷ bs) t))

-- a text with a prefix, or of other than one character, is no other one
other_single : (old : Texts) (prefix text : List ℕ) (e : ℕ) → None ≡ lone_of prefix text
    → contains nat_cmp old.alone e ≡ (contains nat_cmp old.alone e || (bytes_eq [] prefix && bytes_eq (e ∷ []) text))
other_single old [] [] e is = sym (or-false (contains nat_cmp old.alone e))
other_single old [] (d ∷ []) e is = absurd (cc)
other_single old [] (d ∷ f ∷ ds) e is =
    sym (or-false (contains nat_cmp old.alone e)) ∙ ap (λ (b : Bool). contains nat_cmp old.alone e || b) (sym (and_false (e == d)))
other_single old (b ∷ bs) text e is = sym (or-false (contains nat_cmp old.alone e))

-- such a text more
pub other_put : (old : Texts) (beside : Keys) (prefix text : List ℕ) → None ≡ lone_of prefix text
    → ((p t : List ℕ) → has_key beside p t ≡ (has_key old.beside p t || (bytes_eq p prefix && bytes_eq t text)))
    → (p t : List ℕ) → has_text (record old { beside = beside }) p t ≡ (has_text old p t || (bytes_eq p prefix && bytes_eq t text))
other_put old beside prefix text is put [] [] = put [] []
other_put old beside prefix text is put [] (e ∷ []) = other_single old prefix text e is
other_put old beside prefix text is put [] (e ∷ f ∷ es) = put [] (e ∷ f ∷ es)
other_put old beside prefix text is put (b ∷ bs) t = put (b ∷ bs) t
