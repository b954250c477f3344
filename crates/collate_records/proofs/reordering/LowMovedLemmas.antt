-- A character below U+0300 that is its own composed list by all lines of a file is so by fewer of them: what it is composed of by all
-- is a chain of pairs, of which fewer lines leave the end.
use Rattle.std.proofs.Common.{◌≡◌, ◌≢◌, ◌⊎◌, ℕ, ◌<◌, ⊎_elim, Bool, true, false, cond, ◌&&◌, ltb, List, [], ◌∷◌, ◌++◌, get_or, drop, Option, Some, None, refl, sym, ap, ◌∙◌, subst, arith, append_assoc, append-nil}
use Rattle.std.proofs.lemmas.Bool.{and_from, and_parts, and_right, cases_eq, cases_lt, false_from_ne_true, false≢true, le-ltb, ltb-true, or_from, or_parts}
use Rattle.icu_normalizer_core.specs.Canonical.{Canonical, Leaves, composed, composing, marks_in_order, put_in_order, recomposed}
use Rattle.icu_normalizer_core.proofs.composed.CompositionLemmas.{composed_one, composing_end, composing_joined, mark_first, not_one, recomposed_nothing, recomposed_starter}
use Rattle.icu_normalizer_core.proofs.decomposed_lists.DecomposedLemmas.{AreUnmapped, order_unmapped, unmapped_left}
use Rattle.icu_normalizer_core.proofs.settling.LeftLemmas.{left_alone, left_double, left_one}
use Rattle.collate_rules.specs.RecordRules.{is_disordered}

above_zero : (k : ℕ) → k ≢ 0 → 0 < k
above_zero k some = ⊎_elim (λ lt. lt) (λ le. absurd (some (omega (arith, le)))) (cases_lt 0 k)

-- ---- Lists whose marks are in order

head_same : (c d : ℕ) (cs ds : List ℕ) → c ∷ cs ≡ d ∷ ds → c ≡ d
head_same c d cs ds e = ap (λ (xs : List ℕ). get_or xs 0 0) e

tail_same : (c d : ℕ) (cs ds : List ℕ) → c ∷ cs ≡ d ∷ ds → cs ≡ ds
tail_same c d cs ds e = ap (λ (xs : List ℕ). drop 1 xs) e

in_order : (class : ℕ → ℕ) (list : List ℕ) → is_disordered class list ≡ false → marks_in_order class list ≡ list
unfolding marks_in_order put_in_order
in_order class [] h = refl
in_order class (a ∷ []) h = refl
in_order class (a ∷ b ∷ cs) h =
    let both = or_parts (ltb 0 (class b) && ltb (class b) (class a)) (is_disordered class (b ∷ cs)) h in
    ap (put_in_order class a) (in_order class (b ∷ cs) both.1)
    ∙ ap (λ (t : Bool). cond t (b ∷ put_in_order class a cs) (a ∷ b ∷ cs)) both.0

put_first : (class : ℕ → ℕ) (c : ℕ) (cs ms : List ℕ) → (cs ≡ ms → is_disordered class cs ≡ false) → put_in_order class c ms ≡ c ∷ cs → is_disordered class (c ∷ cs) ≡ false
unfolding put_in_order
put_first class c cs [] later e = subst (λ (l : List ℕ). is_disordered class (c ∷ l) ≡ false) (tail_same c c [] cs e) refl
put_first class c cs (d ∷ ds) later e = by (ltb 0 (class d) && ltb (class d) (class c)) refl e
  where
    by : (b : Bool) → (ltb 0 (class d) && ltb (class d) (class c)) ≡ b → cond b (d ∷ put_in_order class c ds) (c ∷ d ∷ ds) ≡ c ∷ cs → is_disordered class (c ∷ cs) ≡ false
    by true t k =
        let less : class d < class c = ltb-true (class d) (class c) (and_parts (ltb 0 (class d)) (ltb (class d) (class c)) t).1 in
        let same : class d ≡ class c = ap class (head_same d c (put_in_order class c ds) cs k) in
        absurd (omega (arith, less, same))
    by false f k =
        let rest : d ∷ ds ≡ cs = tail_same c c (d ∷ ds) cs k in
        subst (λ (l : List ℕ). is_disordered class (c ∷ l) ≡ false) rest
        (or_from (ltb 0 (class d) && ltb (class d) (class c)) (is_disordered class (d ∷ ds)) f (subst (λ (l : List ℕ). is_disordered class l ≡ false) (sym rest) (later (sym rest))))

-- what putting marks in order leaves alone has them in order
ordered : (class : ℕ → ℕ) (list : List ℕ) → marks_in_order class list ≡ list → is_disordered class list ≡ false
unfolding marks_in_order
ordered class [] e = refl
ordered class (c ∷ cs) e =
    put_first class c cs (marks_in_order class cs) (λ same. ordered class cs (sym same)) e

one_less : (class : ℕ → ℕ) (x : ℕ) (list : List ℕ) → is_disordered class (x ∷ list) ≡ false → is_disordered class list ≡ false
one_less class x [] h = refl
one_less class x (y ∷ list) h = (or_parts (ltb 0 (class y) && ltb (class y) (class x)) (is_disordered class (y ∷ list)) h).1

-- so has the end of such a list
end_ordered : (class : ℕ → ℕ) (xs ys : List ℕ) → is_disordered class (xs ++ ys) ≡ false → is_disordered class ys ≡ false
end_ordered class [] ys h = h
end_ordered class (x ∷ xs) ys h = end_ordered class xs ys (one_less class x (xs ++ ys) h)

-- and such a list after a starter
behind_starter : (class : ℕ → ℕ) (x : ℕ) (list : List ℕ) → class x ≡ 0 → is_disordered class list ≡ false → is_disordered class (x ∷ list) ≡ false
behind_starter class x [] zero h = refl
behind_starter class x (y ∷ list) zero h =
    or_from (ltb 0 (class y) && ltb (class y) (class x)) (is_disordered class (y ∷ list))
    (and_right (ltb 0 (class y)) (ltb (class y) (class x)) (le-ltb (class y) (class x) (omega (arith, zero)))) h

-- where fewer characters are marks, of the same classes, fewer are out of order
ordered_before : (p q : ℕ → ℕ) → ((c : ℕ) → 0 < p c → p c ≡ q c) → (list : List ℕ) → is_disordered q list ≡ false → is_disordered p list ≡ false
ordered_before p q same [] h = refl
ordered_before p q same (a ∷ []) h = refl
ordered_before p q same (a ∷ b ∷ cs) h =
    let both = or_parts (ltb 0 (q b) && ltb (q b) (q a)) (is_disordered q (b ∷ cs)) h in
    or_from (ltb 0 (p b) && ltb (p b) (p a)) (is_disordered p (b ∷ cs))
    (false_from_ne_true _ (λ t.
    let parts = and_parts (ltb 0 (p b)) (ltb (p b) (p a)) t in
    let some : 0 < p b = ltb-true 0 (p b) parts.0 in
    let less : p b < p a = ltb-true (p b) (p a) parts.1 in
    let more : 0 < p a = omega (arith, some, less) in
    false≢true (sym both.0 ∙ and_from _ _ (ap (ltb 0) (sym (same b some)) ∙ parts.0) (sym (ap (λ (n : ℕ). ltb n (p a)) (same b some) ∙ ap (ltb (q b)) (same a more)) ∙ parts.1))))
    (ordered_before p q same (b ∷ cs) both.1)

-- ---- Chains of pairs

-- from a character on, each further one joins, and the last that they compose to is the given one
abbrev Chain : Canonical → ℕ → List ℕ → ℕ → Type 0
Chain w z [] c = z ≡ c
Chain w z (y ∷ ys) c = (next : ℕ) × (w.pair z y ≡ Some next) × Chain w next ys c

-- what is composed to one character is such a chain
chain_of : (w : Canonical) (z : ℕ) (ys : List ℕ) (c : ℕ) → composing w z [] ys ≡ c ∷ [] → Chain w z ys c
chain_of w z [] c e = head_same z c [] [] (sym (composing_end w z) ∙ e)
chain_of w z (y ∷ ys) c e = by (w.pair z y) refl (λ next. chain_of w next ys c)
  where
    by : (o : Option ℕ) → w.pair z y ≡ o → ((next : ℕ) → composing w next [] ys ≡ c ∷ [] → Chain w next ys c) → (next : ℕ) × (w.pair z y ≡ Some next) × Chain w next ys c
    by None k later = absurd (not_one w z y c ys k e)
    by (Some next) k later = (next, k, later next (sym (composing_joined w z y next ys k) ∙ e))

-- what is left of its end are its characters, if none of them is mapped
chain_left : (w : Canonical) → ((a b z : ℕ) → w.pair a b ≡ Some z → w.step z ≡ a ∷ b ∷ []) → (z : ℕ) (ys : List ℕ) (c : ℕ) (front : List ℕ)
    → Chain w z ys c → AreUnmapped w ys → Leaves w.step (z ∷ []) front → Leaves w.step (c ∷ []) (front ++ ys)
chain_left w mapping z [] c front chain alone left =
    subst (λ (l : List ℕ). Leaves w.step (c ∷ []) l) (sym (append-nil front)) (subst (λ (x : ℕ). Leaves w.step (x ∷ []) front) chain left)
chain_left w mapping z (y ∷ ys) c front chain alone left =
    subst (λ (l : List ℕ). Leaves w.step (c ∷ []) l) (append_assoc front (y ∷ []) ys)
    (chain_left w mapping chain.0 ys c (front ++ y ∷ []) chain.2 alone.1
    (left_double w.step chain.0 z y front (y ∷ []) (mapping z y chain.0 chain.1) left (left_alone w.step y alone.0)))

-- ---- What fewer steps leave of a chain composes to its end too

-- what is left of a character composes to it, before what may follow
record Recomposes (p : Canonical) (z : ℕ) (rest : List ℕ) : Type 0 where
  first : ℕ
  others : List ℕ
  left : Leaves p.step (z ∷ []) (first ∷ others)
  starter : p.class first ≡ 0
  joins : (more : List ℕ) → composing p first [] (others ++ more) ≡ composing p z [] more
  in_turn : is_disordered p.class (others ++ rest) ≡ false

-- fewer lines: their steps, pairs and marks are those of all
pub record IsFewer (p w : Canonical) : Type 0 where
  pub mapping : (a b z : ℕ) → w.pair a b ≡ Some z → w.step z ≡ a ∷ b ∷ []
  pub steps : (z : ℕ) → (p.step z ≡ []) ⊎ (p.step z ≡ w.step z)
  pub pairs : (a b z : ℕ) → w.pair a b ≡ Some z → p.step z ≡ a ∷ b ∷ [] → p.pair a b ≡ Some z
  pub starters : (a b z : ℕ) → w.pair a b ≡ Some z → p.class z ≡ 0
  pub classes : (c : ℕ) → 0 < p.class c → p.class c ≡ w.class c

module _ (p w : Canonical) (fewer : IsFewer p w) where
  alone_before : (c : ℕ) → w.step c ≡ [] → p.step c ≡ []
  alone_before c none = ⊎_elim (λ e. e) (λ same. same ∙ none) (fewer.steps c)

  next_one : (z y next : ℕ) (ys : List ℕ) → w.pair z y ≡ Some next → w.step y ≡ [] → Recomposes p z (y ∷ ys) → Recomposes p next ys
  next_one z y next ys pair alone r =
      ⊎_elim
      (λ none. record {
        first = next;
        others = [];
        left = left_alone p.step next none;
        starter = fewer.starters z y next pair;
        joins = λ more. refl;
        in_turn = one_less p.class y ys (end_ordered p.class r.others (y ∷ ys) r.in_turn);
      })
      (λ same.
      let is : p.step next ≡ z ∷ y ∷ [] = same ∙ fewer.mapping z y next pair in
      record {
        first = r.first;
        others = r.others ++ y ∷ [];
        left = left_double p.step next z y (r.first ∷ r.others) (y ∷ []) is r.left (left_alone p.step y (alone_before y alone));
        starter = r.starter;
        joins = λ more. ap (composing p r.first []) (append_assoc r.others (y ∷ []) more) ∙ r.joins (y ∷ more) ∙ composing_joined p z y next more (fewer.pairs z y next pair is);
        in_turn = subst (λ (l : List ℕ). is_disordered p.class l ≡ false) (sym (append_assoc r.others (y ∷ []) ys)) r.in_turn;
      })
      (fewer.steps next)

  along : (z : ℕ) (ys : List ℕ) (c : ℕ) → Chain w z ys c → AreUnmapped w ys → Recomposes p z ys → Recomposes p c []
  along z [] c chain alone r = subst (λ (x : ℕ). Recomposes p x []) chain r
  along z (y ∷ ys) c chain alone r = along chain.0 ys c chain.2 alone.1 (next_one z y chain.0 ys chain.1 alone.0 r)

  recomposed_own : (c : ℕ) → Leaves p.step (c ∷ []) (p.full c) → Recomposes p c [] → composed p (c ∷ []) ≡ c ∷ []
  recomposed_own c ends r =
      let full : p.full c ≡ r.first ∷ r.others = left_one p.step (c ∷ []) (p.full c) (r.first ∷ r.others) ends r.left in
      let turn : is_disordered p.class r.others ≡ false = subst (λ (l : List ℕ). is_disordered p.class l ≡ false) (append-nil r.others) r.in_turn in
      composed_one p c
      ∙ ap (λ (l : List ℕ). recomposed p (marks_in_order p.class l)) full
      ∙ ap (recomposed p) (in_order p.class (r.first ∷ r.others) (behind_starter p.class r.first r.others r.starter turn))
      ∙ recomposed_starter p r.first r.others r.starter
      ∙ ap (composing p r.first []) (sym (append-nil r.others)) ∙ r.joins [] ∙ composing_end p c

  -- A starter that is its own composed list by all lines is so by fewer.
  pub own_before : (c : ℕ) → w.class c ≡ 0 → Leaves w.step (c ∷ []) (w.full c) → Leaves p.step (c ∷ []) (p.full c) → composed w (c ∷ []) ≡ c ∷ [] → composed p (c ∷ []) ≡ c ∷ []
  own_before c zero all_ends ends own = by (marks_in_order w.class (w.full c)) refl
    where
      no_mark : (s : ℕ) → w.class s ≡ 0 → p.class s ≡ 0
      no_mark s none =
          ⊎_elim (λ e. e) (λ mark. absurd (mark (fewer.classes s (above_zero (p.class s) mark) ∙ none))) (cases_eq (p.class s) 0)

      by : (sorted : List ℕ) → marks_in_order w.class (w.full c) ≡ sorted → composed p (c ∷ []) ≡ c ∷ []
      by [] e = let off : [] ≡ c ∷ [] = sym (recomposed_nothing w) ∙ ap (recomposed w) (sym e) ∙ sym (composed_one w c) ∙ own in absurd (cc)
      by (s ∷ ys) e =
          let made : recomposed w (s ∷ ys) ≡ c ∷ [] = ap (recomposed w) (sym e) ∙ sym (composed_one w c) ∙ own in
          let first : w.class s ≡ 0 =
          ⊎_elim (λ h. h) (λ mark. ap w.class (mark_first w s c ys mark made).1 ∙ zero) (cases_eq (w.class s) 0) in
          let chain : Chain w s ys c = chain_of w s ys c (sym (recomposed_starter w s ys first) ∙ made) in
          let alone : AreUnmapped w (s ∷ ys) = subst (AreUnmapped w) e (order_unmapped w (w.full c) (unmapped_left w (c ∷ []) (w.full c) all_ends)) in
          let left : Leaves w.step (c ∷ []) (s ∷ ys) = chain_left w fewer.mapping s ys c (s ∷ []) chain alone.1 (left_alone w.step s alone.0) in
          let same : w.full c ≡ s ∷ ys = left_one w.step (c ∷ []) (w.full c) (s ∷ ys) all_ends left in
          let turn : is_disordered w.class (s ∷ ys) ≡ false = ordered w.class (s ∷ ys) (ap (marks_in_order w.class) (sym same) ∙ e) in
          recomposed_own c ends (along s ys c chain alone.1 (record {
            first = s;
            others = [];
            left = left_alone p.step s (alone_before s alone.0);
            starter = no_mark s first;
            joins = λ more. refl;
            in_turn = ordered_before p.class w.class fewer.classes ys (one_less w.class s ys turn);
          }))
