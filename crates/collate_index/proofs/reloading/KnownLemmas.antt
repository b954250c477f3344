-- What is known of characters stays right as more is found out, and what a character reaches by what its mapping brings in.
use Rattle.std.proofs.Common.{◌≡◌, ℕ, ◌<◌, ◌≤◌, Bool, true, false, List, [], ◌∷◌, Option, None, Some, length, get_or, set, refl, sym, ap, ◌∙◌, subst, arith, ⊎_elim}
use Rattle.std.specs.List.{All, Contains}
use Rattle.std.specs.Prelude.{MatchBool}
use Rattle.std.proofs.lemmas.Bool.{cases_eq, cases_lt}
use Rattle.std.proofs.lemmas.List.{get_or-set_other, get_or-set_same, get_or_past}
use Rattle.std.proofs.lemmas.List.Elements.{All-contains, Contains-append_left, Contains-push, Contains-push_cases}
use Rattle.std.proofs.lemmas.Option.{none-some, same_Some}
use Rattle.icu_normalizer_core.specs.Canonical.{Reaches, stands, steps}
use Rattle.collate_laws.specs.Unchanged.{ReachesUnchanged}
use Rattle.collate_records.specs.Changes.{IsChanged, IsUnchanged}
use Rattle.collate_records.proofs.comparing.ReachingLemmas.{one_first, one_itself, one_of_text, one_second}
use Rattle.collate_rules.specs.Meaning.{step_of}
use Rattle.collate_records.specs.Differences.{TwoFiles}
use Rattle.collate_index.specs.Changes.{AreKnown, ReachesChanged, Tells}

-- ---- a list of what is known

module _ (files : TwoFiles) where
  pub none_known : (known : List (Option Bool)) → All (λ (is : Option Bool). is ≡ None) known → AreKnown files known
  none_known known none c is found =
      let here : get_or known c None ≡ None =
      ⊎_elim (λ (within : c < length known). none c None within) (λ (past : length known ≤ c). get_or_past known c None past) (cases_lt c (length known)) in
      absurd (none-some is (sym here ∙ found))

  pub one_known : (known : List (Option Bool)) (place : ℕ) (is : Bool) → place < length known → AreKnown files known → Tells files place is
      → AreKnown files (set known place (Some is))
  one_known known place is within so_far here c other found =
      ⊎_elim
      (λ (same : c ≡ place).
      let read : Some is ≡ Some other =
      sym (get_or-set_same known place (Some is) None within) ∙ ap (λ (k : ℕ). get_or (set known place (Some is)) k None) (sym same) ∙ found in
      subst (λ (b : Bool). Tells files c b) (same_Some is other read) (subst (λ (k : ℕ). Tells files k is) (sym same) here))
      (λ (apart : c ≡ place → ⊥). so_far c other (sym (get_or-set_other known place c (Some is) None apart) ∙ found))
      (cases_eq c place)

-- ---- what is reached, by what a mapping brings in

Contains-first : (c : ℕ) (cs : List ℕ) → Contains (c ∷ cs) c
Contains-first c cs = Contains-append_left (c ∷ []) cs c (Contains-push [] c)

single : (d x : ℕ) → Contains (d ∷ []) x → d ≡ x
single d x h = ⊎_elim (λ none. absurd (omega (arith, none.1))) (λ same. same) (Contains-push_cases [] d x h)

module _ (step : ℕ → List ℕ) (Q : ℕ → Type 0) where
  -- what a character reaches passes
  abbrev pub Passes : ℕ → Type 0
  Passes c = (d : ℕ) → Reaches step (c ∷ []) d → Q d

  -- so does what a text reaches, if that does which each of its characters reaches
  pub text_passes : (text : List ℕ) → All Passes text → (d : ℕ) → Reaches step text d → Q d
  text_passes text each d (stands t c h) = All-contains Passes t c each h c (stands (c ∷ []) c (Contains-first c []))
  text_passes text each d (steps t c e h r) = All-contains Passes t c each h e (steps (c ∷ []) c e (Contains-first c []) r)

  -- and what a character reaches that passes itself, if that does which its mapping reaches
  pub character_passes : (c : ℕ) → Q c → All Passes (step c) → Passes c
  character_passes c here each d r = by (c ∷ []) d refl r
    where
      by : (t : List ℕ) (x : ℕ) → t ≡ c ∷ [] → Reaches step t x → Q x
      by t x same (stands u y h) = subst Q (single c y (subst (λ l. Contains l y) same h)) here
      by t x same (steps u y z h q) =
          let is : c ≡ y = single c y (subst (λ l. Contains l y) same h)
          in text_passes (step c) each z (subst (λ l. Reaches step l z) (ap step (sym is)) q)

-- ---- whether a character reaches a changed one

module _ (files : TwoFiles) where
  abbrev Answers : ℕ → Bool → Type 0
  Answers c is = MatchBool is (IsChanged files.before files.after c) (IsUnchanged files.before files.after c)

  pub told_itself : (c : ℕ) (is : Bool) → Answers c is → All (λ d. Tells files d false) (step_of files.before c) → Tells files c is
  told_itself c true changed parts = one_itself (step_of files.before) Answers c changed
  told_itself c false unchanged parts = character_passes (step_of files.before) (IsUnchanged files.before files.after) c unchanged parts

  pub told_first : (c d : ℕ) (ds : List ℕ) → step_of files.before c ≡ d ∷ ds → Tells files d true → Tells files c true
  told_first c d ds mapped one = one_first (step_of files.before) Answers c d ds mapped one

  pub told_second : (c d e : ℕ) → step_of files.before c ≡ d ∷ e ∷ [] → Tells files e true → Tells files c true
  told_second c d e mapped one = one_second (step_of files.before) Answers c d e mapped one

  pub told_one : (text : List ℕ) (c : ℕ) → Contains text c → Tells files c true → ReachesChanged files text
  told_one text c within one = one_of_text (step_of files.before) Answers text c within one

  pub told_none : (text : List ℕ) → All (λ c. Tells files c false) text → ReachesUnchanged files.before files.after text
  told_none text each = text_passes (step_of files.before) (IsUnchanged files.before files.after) text each
