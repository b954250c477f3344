-- Characters in their place, and where a text may be cut so that what follows can be decomposed alone.
use Rattle.std.proofs.Common.{◌≡◌, ℕ, ◌<◌, ◌≤◌, ◌⊎◌, inl, inr, ⊎_elim, true, List, [], ◌∷◌, ◌++◌, length, drop, flat_map, refl, sym, ap, subst, ◌∙◌, arith, append_assoc, append-nil, length-append}
use Rattle.std.proofs.lemmas.Bool.{cases_eq, cases_lt, and_parts}
use Rattle.std.proofs.lemmas.Bool.Decides.{nat_tests}
use Rattle.std.proofs.lemmas.Grind.{flat_map-append}
use Rattle.std.proofs.lemmas.List.Folds.{list_all-append}
use Rattle.std.specs.List.{AllByRecursion, list_all}
use Rattle.icu_normalizer_core.specs.Canonical.{Canonical, put_in_order, marks_in_order, decomposed}
use Rattle.icu_normalizer_core.specs.Forming.{IsForming, AreLowBelow}
use Rattle.icu_normalizer_core.specs.Marks.{is_mark}
use Rattle.icu_normalizer_core.proofs.decomposed_lists.DecomposedLemmas.{AreScalar, order_before}
use Rattle.icu_normalizer_core.proofs.decomposed_lists.CanonicalStepLemmas.{decomposed_itself}
use Rattle.icu_normalizer.specs.FormCuts.{ReachesBelow}
use Rattle.icu_normalizer.specs.Splits.{IsDecomposed, IsInPlace}
use Rattle.icu_normalizer.proofs.noted.OwnLemmas.{AreOwn, decomposed_own}

-- ---- putting one character in order

-- where the character stays first, nothing went before it
put_first : (class : ℕ → ℕ) (c : ℕ) (ds zs : List ℕ) → put_in_order class c ds ≡ c ∷ zs → ds ≡ zs
unfolding put_in_order
put_first class c [] zs h = cc
put_first class c (d ∷ ds) zs h = grind (arith, nat_tests)

-- and so the next is a starter, or its class is not lower
put_behind : (class : ℕ → ℕ) (c d : ℕ) (ds zs : List ℕ) → put_in_order class c (d ∷ ds) ≡ c ∷ zs → (class d ≡ 0) ⊎ (class c ≤ class d)
unfolding put_in_order
put_behind class c d ds zs h =
    ⊎_elim inl
    (λ mark. ⊎_elim (λ lower. absurd (let same : class d ≡ class c = grind (arith, nat_tests) in omega arith)) inr (cases_lt (class d) (class c)))
    (cases_eq (class d) 0)

pub put_stays : (class : ℕ → ℕ) (c d : ℕ) (ds : List ℕ) → (class d ≡ 0) ⊎ (class c ≤ class d) → put_in_order class c (d ∷ ds) ≡ c ∷ d ∷ ds
unfolding put_in_order
put_stays class c d ds (inl zero) = grind (arith, nat_tests)
put_stays class c d ds (inr above) = grind (arith, nat_tests)

module _ (canonical : Canonical) where
  -- ---- characters in their place

  -- each character of a list is in its place
  abbrev pub AreInPlace : ℕ → List ℕ → Type 0
  AreInPlace before [] = Unit {0}
  AreInPlace before (c ∷ cs) = IsInPlace canonical before c × AreInPlace (canonical.class c) cs

  -- the class of the last character
  abbrev pub last_class : ℕ → List ℕ → ℕ
  last_class before [] = before
  last_class before (c ∷ cs) = last_class (canonical.class c) cs

  pub in_place_more : (before : ℕ) (cs : List ℕ) (c : ℕ) → AreInPlace before cs → IsInPlace canonical (last_class before cs) c → AreInPlace before (cs ++ c ∷ [])
  in_place_more before [] c h g = (g, tt)
  in_place_more before (d ∷ cs) c h g = (h.0, in_place_more (canonical.class d) cs c h.1 g)

  pub last_more : (before : ℕ) (cs : List ℕ) (c : ℕ) → last_class before (cs ++ c ∷ []) ≡ canonical.class c
  last_more before [] c = refl
  last_more before (d ∷ cs) c = last_more (canonical.class d) cs c

  in_place_front : (before : ℕ) (xs ys : List ℕ) → AreInPlace before (xs ++ ys) → AreInPlace before xs
  in_place_front before [] ys h = tt
  in_place_front before (x ∷ xs) ys h = (h.0, in_place_front (canonical.class x) xs ys h.1)

  in_place_at : (before : ℕ) (xs : List ℕ) (y : ℕ) (ys : List ℕ) → AreInPlace before (xs ++ y ∷ ys) → canonical.full y ≡ y ∷ []
  in_place_at before [] y ys h = h.0.0
  in_place_at before (x ∷ xs) y ys h = in_place_at (canonical.class x) xs y ys h.1

  -- ---- such a text is its own decomposed list

  decomposed_first : (c : ℕ) (cs : List ℕ) → canonical.full c ≡ c ∷ [] → decomposed canonical (c ∷ cs) ≡ put_in_order canonical.class c (decomposed canonical cs)
  unfolding decomposed marks_in_order
  decomposed_first c cs full = ap (λ l. marks_in_order canonical.class (l ++ flat_map canonical.full cs)) full

  put_in_place : (c : ℕ) (cs : List ℕ) → AreInPlace (canonical.class c) cs → put_in_order canonical.class c cs ≡ c ∷ cs
  unfolding put_in_order
  put_in_place c [] h = refl
  put_in_place c (d ∷ ds) h = put_stays canonical.class c d ds h.0.1

  pub in_place_is_decomposed : (before : ℕ) (cs : List ℕ) → AreInPlace before cs → IsDecomposed canonical cs
  unfolding decomposed marks_in_order
  in_place_is_decomposed before [] h = refl
  in_place_is_decomposed before (c ∷ cs) h =
      decomposed_first c cs h.0.0 ∙ ap (put_in_order canonical.class c) (in_place_is_decomposed (canonical.class c) cs h.1) ∙ put_in_place c cs h.1

  -- ---- and only such a text is

  module _ (ok : IsForming canonical) where
    -- a character that leads the decomposed list stands for itself, and the others are decomposed alone
    first_alone : (c : ℕ) (cs zs : List ℕ) → AreScalar (c ∷ cs) → decomposed canonical (c ∷ cs) ≡ c ∷ zs → (canonical.full c ≡ c ∷ []) × (decomposed canonical cs ≡ zs)
    first_alone c cs zs s h =
        let full = (subst (AreOwn canonical) h (decomposed_own canonical ok (c ∷ cs) s)).0 in
        (full, put_first canonical.class c (decomposed canonical cs) zs (sym (decomposed_first c cs full) ∙ h))

    agreed_behind : (b : ℕ) (xs ys zs : List ℕ) → AreScalar (b ∷ (xs ++ ys)) → decomposed canonical (b ∷ (xs ++ ys)) ≡ b ∷ (xs ++ zs) → AreInPlace (canonical.class b) xs
    agreed_behind b [] ys zs s h = tt
    agreed_behind b (x ∷ xs) ys zs s h =
        let first = first_alone b (x ∷ (xs ++ ys)) (x ∷ (xs ++ zs)) s h in
        let second = first_alone x (xs ++ ys) (xs ++ zs) s.1 first.1 in
        let put = ap (put_in_order canonical.class b) (sym first.1) ∙ sym (decomposed_first b (x ∷ (xs ++ ys)) first.0) ∙ h in
        ((second.0, put_behind canonical.class b x (xs ++ zs) (x ∷ (xs ++ zs)) put), agreed_behind x xs ys zs s.1 first.1)

    -- what a text and its decomposed list begin with is in its place
    pub agreed_in_place : (xs ys zs : List ℕ) → AreScalar (xs ++ ys) → decomposed canonical (xs ++ ys) ≡ xs ++ zs → AreInPlace 0 xs
    agreed_in_place [] ys zs s h = tt
    agreed_in_place (x ∷ xs) ys zs s h =
        let first = first_alone x (xs ++ ys) (xs ++ zs) s h in ((first.0, inr (omega arith)), agreed_behind x xs ys zs s h)

  -- ---- before a starter a text may be cut

  cut_before : (front : List ℕ) (s : ℕ) (back : List ℕ) → canonical.full s ≡ s ∷ [] → canonical.class s ≡ 0
      → decomposed canonical (front ++ s ∷ back) ≡ decomposed canonical front ++ decomposed canonical (s ∷ back)
  unfolding decomposed
  cut_before front s back full starter =
      ap (marks_in_order canonical.class) (flat_map-append canonical.full front (s ∷ back) ∙ ap (λ l. flat_map canonical.full front ++ (l ++ flat_map canonical.full back)) full)
      ∙ order_before canonical.class s (flat_map canonical.full front) (flat_map canonical.full back) starter
      ∙ ap (λ l. marks_in_order canonical.class (flat_map canonical.full front) ++ l) (sym (decomposed_itself canonical s back full starter))

  -- ---- a text that was read to an index

  -- Nothing that was read is out of its place. What was read last is a starter and marks, or marks at the start of the text.
  pub record IsWalked (front back : List ℕ) (before : ℕ) : Type 0 where
    pub in_place : AreInPlace 0 (front ++ back)
    pub last : last_class 0 (front ++ back) ≡ before
    pub starts : (front ≡ []) ⊎ ((s : ℕ) × (marks : List ℕ) × (back ≡ s ∷ marks) × (canonical.class s ≡ 0))
    pub marks : list_all (is_mark canonical.class) (drop 1 back) ≡ true

  pub walked_none : IsWalked [] [] 0
  walked_none = record { in_place = tt; last = refl; starts = inl refl; marks = refl }

  -- characters below U+00A0 are in their place
  low_in_place : (before : ℕ) (cs : List ℕ) → ((x : ℕ) → x < 0xa0 → canonical.full x ≡ x ∷ []) → ((x : ℕ) → x < 0xa0 → canonical.class x ≡ 0) → AllByRecursion (λ c. c < 0xa0) cs → AreInPlace before cs
  low_in_place before [] itself starter low = tt
  low_in_place before (c ∷ cs) itself starter low =
      ((itself c low.0, inl (starter c low.0)), low_in_place (canonical.class c) cs itself starter low.1)

  pub walked_low : (front : List ℕ) (c : ℕ) → ((x : ℕ) → x < 0xa0 → canonical.full x ≡ x ∷ []) → ((x : ℕ) → x < 0xa0 → canonical.class x ≡ 0) → AllByRecursion (λ c. c < 0xa0) front → c < 0xa0 → IsWalked front (c ∷ []) 0
  walked_low front c itself starter low last = record {
    in_place = in_place_more 0 front c (low_in_place 0 front itself starter low) (itself c last, inl (starter c last));
    last = last_more 0 front c ∙ starter c last;
    starts = inr (c, [], refl, starter c last);
    marks = refl;
  }

  walked_next : (front back : List ℕ) (before c class : ℕ) → IsWalked front back before → IsInPlace canonical before c → class ≡ canonical.class c
      → AreInPlace 0 ((front ++ back) ++ c ∷ []) × (last_class 0 ((front ++ back) ++ c ∷ []) ≡ class)
  walked_next front back before c class w h e = (
    in_place_more 0 (front ++ back) c w.in_place (subst (λ b. IsInPlace canonical b c) (sym w.last) h),
    last_more 0 (front ++ back) c ∙ sym e,
  )

  pub walked_starter : (front back : List ℕ) (before c class : ℕ) → IsWalked front back before → IsInPlace canonical before c → class ≡ canonical.class c → class ≡ 0 → IsWalked (front ++ back) (c ∷ []) class
  walked_starter front back before c class w h e zero =
      let next = walked_next front back before c class w h e in
      record { in_place = next.0; last = next.1; starts = inr (c, [], refl, sym e ∙ zero); marks = refl }

  marks_more : (back : List ℕ) (c : ℕ) → list_all (is_mark canonical.class) (drop 1 back) ≡ true → 0 < canonical.class c → list_all (is_mark canonical.class) (drop 1 (back ++ c ∷ [])) ≡ true
  marks_more [] c h mark = refl
  marks_more (b ∷ back) c h mark = list_all-append (is_mark canonical.class) back (c ∷ []) ∙ grind (arith, nat_tests)

  starts_more : (front back : List ℕ) (c : ℕ) → (front ≡ []) ⊎ ((s : ℕ) × (marks : List ℕ) × (back ≡ s ∷ marks) × (canonical.class s ≡ 0))
      → (front ≡ []) ⊎ ((s : ℕ) × (marks : List ℕ) × (back ++ c ∷ [] ≡ s ∷ marks) × (canonical.class s ≡ 0))
  starts_more front back c (inl e) = inl e
  starts_more front back c (inr t) = inr (t.0, t.1 ++ c ∷ [], ap (λ l. l ++ c ∷ []) t.2, t.3)

  pub walked_mark : (front back : List ℕ) (before c class : ℕ) → IsWalked front back before → IsInPlace canonical before c → class ≡ canonical.class c → 0 < class → IsWalked front (back ++ c ∷ []) class
  walked_mark front back before c class w h e mark =
      let next = walked_next front back before c class w h e in
      let same = append_assoc front back (c ∷ []) in
      record {
        in_place = subst (AreInPlace 0) same next.0;
        last = subst (λ l. last_class 0 l ≡ class) same next.1;
        starts = starts_more front back c w.starts;
        marks = marks_more back c w.marks (omega arith);
      }

  -- ---- a character out of its place comes next

  -- what is in its place was read before it
  within : (before : ℕ) (seen : List ℕ) (c : ℕ) (left xs ws : List ℕ) → seen ++ c ∷ left ≡ xs ++ ws → AreInPlace before xs → (IsInPlace canonical (last_class before seen) c → ⊥) → (w : List ℕ) × (seen ≡ xs ++ w)
  within before seen c left [] ws e h out = (seen, refl)
  within before [] c left (x ∷ xs) ws e h out = absurd (out (let same : x ≡ c = cc in subst (IsInPlace canonical before) same h.0))
  within before (s ∷ seen) c left (x ∷ xs) ws e h out =
      let head : s ≡ x = cc in
      let rest : seen ++ c ∷ left ≡ xs ++ ws = cc in
      let there = within (canonical.class s) seen c left xs ws rest (subst (λ b. AreInPlace (canonical.class b) xs) (sym head) h.1) out in
      (there.0, cc (head, there.1))

  not_mark : (c : ℕ) → canonical.class c ≡ 0 → is_mark canonical.class c ≡ true → ⊥
  not_mark c zero mark = grind (arith, nat_tests)

  -- no starter stands among the marks after the last one
  pub starter_before : (front back xs w : List ℕ) (x : ℕ) → canonical.class x ≡ 0 → front ++ back ≡ xs ++ x ∷ w → list_all (is_mark canonical.class) (drop 1 back) ≡ true → length xs ≤ length front
  starter_before front back [] w x zero e marks = omega arith
  starter_before [] back (y ∷ xs) w x zero e marks =
      let behind = ap (λ l. list_all (is_mark canonical.class) (drop 1 l)) (sym e) ∙ marks in
      let parts = and_parts (list_all (is_mark canonical.class) xs) (list_all (is_mark canonical.class) (x ∷ w)) (sym (list_all-append (is_mark canonical.class) xs (x ∷ w)) ∙ behind) in
      absurd (not_mark x zero (and_parts (is_mark canonical.class x) (list_all (is_mark canonical.class) w) parts.1).0)
  starter_before (f ∷ front) back (y ∷ xs) w x zero e marks =
      let rest : front ++ back ≡ xs ++ x ∷ w = cc in omega (arith, starter_before front back xs w x zero rest marks)

  module _ (ok : IsForming canonical) (front back : List ℕ) (before c : ℕ) (left : List ℕ) (scalar : AreScalar ((front ++ back) ++ c ∷ left)) (w : IsWalked front back before) (out : IsInPlace canonical before c → ⊥) where
    out_last : IsInPlace canonical (last_class 0 (front ++ back)) c → ⊥
    out_last h = out (subst (λ b. IsInPlace canonical b c) w.last h)

    pub walked_changes : IsDecomposed canonical ((front ++ back) ++ c ∷ left) → ⊥
    walked_changes h =
        let text = (front ++ back) ++ c ∷ left in
        let kept = agreed_in_place ok text [] [] (subst AreScalar (sym (append-nil text)) scalar) (ap (decomposed canonical) (append-nil text) ∙ h ∙ sym (append-nil text)) in
        let there = within 0 (front ++ back) c left text [] (sym (append-nil text)) kept out_last in
        omega (arith, ap length there.1, length-append text there.0, length-append (front ++ back) (c ∷ left))

    pub walked_far : (bound : ℕ) → AreLowBelow bound canonical → ReachesBelow (decomposed canonical) bound ((front ++ back) ++ c ∷ left) front
    walked_far bound below agreed others zs x e same low =
        let kept = agreed_in_place ok agreed (x ∷ others) zs (subst AreScalar e scalar) (ap (decomposed canonical) (sym e) ∙ same) in
        let starter = ok.starters x (omega (arith, low, below.within)) in
        let more = in_place_more 0 agreed x kept (below.itself x low, inl starter) in
        let there = within 0 (front ++ back) c left (agreed ++ x ∷ []) others (e ∙ sym (append_assoc agreed (x ∷ []) others)) more out_last in
        starter_before front back agreed there.0 x starter (there.1 ∙ append_assoc agreed (x ∷ []) there.0) w.marks

  -- what stands before the last starter that was read can be left as it is
  alone_from : (front back more : List ℕ) → AreInPlace 0 (front ++ back) → (front ≡ []) ⊎ ((s : ℕ) × (marks : List ℕ) × (back ≡ s ∷ marks) × (canonical.class s ≡ 0))
      → decomposed canonical (front ++ (back ++ more)) ≡ front ++ decomposed canonical (back ++ more)
  alone_from front back more kept (inl e) =
      ap (λ l. decomposed canonical (l ++ (back ++ more))) e ∙ ap (λ l. l ++ decomposed canonical (back ++ more)) (sym e)
  alone_from front back more kept (inr t) =
      let placed : AreInPlace 0 (front ++ t.0 ∷ t.1) = subst (λ l. AreInPlace 0 (front ++ l)) t.2 kept in
      ap (λ l. decomposed canonical (front ++ (l ++ more))) t.2
      ∙ cut_before front t.0 (t.1 ++ more) (in_place_at 0 front t.0 t.1 placed) t.3
      ∙ ap (λ l. l ++ decomposed canonical (t.0 ∷ (t.1 ++ more))) (in_place_is_decomposed 0 front (in_place_front 0 front (t.0 ∷ t.1) placed))
      ∙ ap (λ l. front ++ decomposed canonical (l ++ more)) (sym t.2)

  pub walked_alone : (front back more : List ℕ) (before : ℕ) → IsWalked front back before → decomposed canonical (front ++ (back ++ more)) ≡ front ++ decomposed canonical (back ++ more)
  walked_alone front back more before w = alone_from front back more w.in_place w.starts
