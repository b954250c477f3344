-- A set of the texts with which something is said, with one more.
use Rattle.std.proofs.Common.{◌≡◌, ℕ, Bool, true, false, cond, not, ◌||◌, List, [], ◌∷◌, ◌++◌, refl, sym, ap, ◌∙◌, Bor}
use Rattle.std.specs.Prelude.{bytes_eq}
use Rattle.std.specs.declared.cmp.Ordering.{Ordering}
use Rattle.std.specs.declared.cmp.Ordering.TheVariants.{Equal}
use Rattle.std.specs.BTreeSet.{BTreeSet, contains, insert_key}
use Rattle.std.specs.Cmp.Lexicographic.{slice_cmp}
use Rattle.std.specs.List.{list_any}
use Rattle.std.specs.Ordering.{is_eq, nat_cmp}
use Rattle.std.proofs.lemmas.Cmp.{nat_list_eq_equiv}
use Rattle.std.proofs.lemmas.List.Folds.{list_any-append}
use Rattle.std.proofs.lemmas.Map.Text.{is_eq-slice_cmp}
use Rattle.std.proofs.lemmas.Slice.Eq.{bytes_eq-Decides}
use Rattle.std.proofs.Math.Bool.{or-false, or-true}
use Rattle.collate_lines.proofs.reading.KeyLemmas.{any_inserted}
use Rattle.collate_words.specs.Sayings.{SaidBeside}
use Rattle.collate_compile.specs.BesideLines.{HasTexts, has_beside, with_beside}

any_same : {A : Type 0} (p q : A → Bool) (xs : List A) → ((x : A) → p x ≡ q x) → list_any p xs ≡ list_any q xs
any_same p q [] same = refl
any_same p q (x ∷ xs) same =
    ap (λ (b : Bool). b || list_any p xs) (same x) ∙ ap (λ (b : Bool). q x || b) (any_same p q xs same)

cond_turned : {A : Type 0} (b : Bool) (x y : A) → cond b x y ≡ cond (not b) y x
cond_turned true x y = refl
cond_turned false x y = refl

-- what has something said with it stays so
had : (saids : List SaidBeside) (said : SaidBeside) (cs : List ℕ) → has_beside saids said.characters ≡ true
    → has_beside saids cs ≡ (has_beside saids cs || bytes_eq said.characters cs)
had saids said cs h = by (bytes_eq said.characters cs) refl
  where
    by : (b : Bool) → bytes_eq said.characters cs ≡ b → has_beside saids cs ≡ (has_beside saids cs || b)
    by false e = sym (or-false (has_beside saids cs))
    by true e =
        sym (ap (has_beside saids) ((bytes_eq-Decides said.characters cs).0 e)) ∙ h ∙ sym (or-true (has_beside saids cs))

has_with : (saids : List SaidBeside) (said : SaidBeside) (cs : List ℕ)
    → has_beside (with_beside saids said) cs ≡ (has_beside saids cs || bytes_eq said.characters cs)
has_with saids said cs = by (has_beside saids said.characters) refl
  where
    by : (b : Bool) → has_beside saids said.characters ≡ b
        → has_beside (cond b saids (saids ++ said ∷ [])) cs ≡ (has_beside saids cs || bytes_eq said.characters cs)
    by true h = had saids said cs h
    by false h =
        list_any-append (λ (other : SaidBeside). bytes_eq other.characters cs) saids (said ∷ [])
        ∙ ap (λ (b : Bool). has_beside saids cs || b) (or-false (bytes_eq said.characters cs))

-- how texts are ordered
abbrev pub text_cmp : Bor (List ℕ) → Bor (List ℕ) → Ordering
text_cmp x y = slice_cmp nat_cmp x.now y.now

module _ (old new : BTreeSet (Bor (List ℕ))) (text : Bor (List ℕ)) (is_new : Bool)
    (is : is_new ≡ not (contains text_cmp old text)) (puts : new.keys ≡ insert_key text_cmp old.keys text) where
  -- whether a text is there, after one more
  there_with : (cs : List ℕ)
      → list_any (λ t. bytes_eq t.now cs) new.keys ≡ (list_any (λ t. bytes_eq t.now cs) old.keys || bytes_eq text.now cs)
  there_with cs = ap (list_any (λ t. bytes_eq t.now cs)) puts ∙ any_inserted text_cmp (λ t. bytes_eq t.now cs) text same old.keys
    where
      same : (x : Bor (List ℕ)) → text_cmp text x ≡ Equal → bytes_eq text.now cs ≡ bytes_eq x.now cs
      same x e = ap (λ (l : List ℕ). bytes_eq l cs) ((bytes_eq-Decides text.now x.now).0 (sym (is_eq-slice_cmp text.now x.now) ∙ ap is_eq e))

  module _ (saids : List SaidBeside) (said : SaidBeside) (same : text.now ≡ said.characters) (has : HasTexts old saids) where
    -- the text is new where nothing is said with it
    new_is : is_new ≡ not (has_beside saids said.characters)
    new_is =
        is ∙ ap not (any_same (λ t. is_eq (text_cmp text t)) (λ t. bytes_eq t.now text.now) old.keys
        (λ t. is_eq-slice_cmp text.now t.now ∙ nat_list_eq_equiv.symm text.now t.now)
        ∙ ap (λ (cs : List ℕ). list_any (λ t. bytes_eq t.now cs) old.keys) same ∙ has said.characters)

    pub beside_with : with_beside saids said ≡ cond is_new (saids ++ said ∷ []) saids
    beside_with =
        cond_turned (has_beside saids said.characters) saids (saids ++ said ∷ [])
        ∙ ap (λ (b : Bool). cond b (saids ++ said ∷ []) saids) (sym new_is)

    pub texts_with : HasTexts new (with_beside saids said)
    texts_with = λ cs.
        there_with cs ∙ ap (λ (b : Bool). b || bytes_eq text.now cs) (has cs)
        ∙ ap (λ (key : List ℕ). has_beside saids cs || bytes_eq key cs) same ∙ sym (has_with saids said cs)
