-- The steps of a writer of decomposed text.
use Rattle.std.proofs.Common.{◌≡◌, ℕ, List, [], ◌∷◌, ◌++◌, refl, sym, ap, ap₂, subst, ◌∙◌, append_assoc, append-nil, arith, ◌+◌, ◌<◌, ◌≤◌, length, take, set, true, ◌==◌, length-set}
use Rattle.std.proofs.lemmas.Bool.Decides.{nat_tests}
use Rattle.std.proofs.Math.Seq.{take-append-add}
use Rattle.std.proofs.lemmas.List.{length-take-le, take-take, take_more_set}
use Rattle.std.specs.List.{list_all, flat_map}
use Rattle.std.specs.Prelude.{Result, Ok, Err, OnErr}
use Rattle.icu_normalizer_core.specs.Canonical.{Canonical, marks_in_order, decomposed}
use Rattle.icu_normalizer_core.specs.Marks.{is_mark}
use Rattle.icu_normalizer_core.proofs.decomposed_lists.DecomposedLemmas.{order_before}
use Rattle.icu_normalizer_core.proofs.decomposed_lists.RunLemmas.{order_nothing, all_pushed, mark_from}
use Rattle.icu_normalizer.specs.declared.decomposing.writer.Writer.{Writer}
use Rattle.icu_normalizer.specs.Marks.{stands_to}
use Rattle.icu_normalizer.specs.Sinks.{AddsPrefix}
use Rattle.icu_normalizer.specs.Texts.{IsEncoding}
use Rattle.icu_normalizer.specs.Writer.{writer_data, held, due, AddsFront, KeepsDue, Writes, WritesPart}
use Rattle.icu_normalizer.proofs.writing.SinkLemmas.{joined_front, joined_back}
use Rattle.icu_normalizer.proofs.writing.OrderLemmas.{stands_order}

-- ---- parts of bytes

pub front_more : (old all mid left new rest : List ℕ) → AddsFront old all left mid → AddsFront mid left rest new → AddsFront old all rest new
front_more old all mid left new rest h g = record {
  written = h.written ++ g.written;
  whole = h.whole ∙ ap (λ l. h.written ++ l) g.whole ∙ sym (append_assoc h.written g.written rest);
  holds = g.holds ∙ ap (λ l. l ++ g.written) h.holds ∙ append_assoc old h.written g.written;
}

-- other words for what there is, and for what is left
pub front_same : (old all left all' left' new : List ℕ) → all' ≡ all → left ≡ left' → AddsFront old all left new → AddsFront old all' left' new
front_same old all left all' left' new e f h = record { written = h.written; whole = e ∙ h.whole ∙ ap (λ l. h.written ++ l) f; holds = h.holds }

pub front_cut : (old all mid left new : List ℕ) → AddsFront old all left mid → AddsPrefix mid left new → AddsPrefix old all new
front_cut old all mid left new h g = joined_back old mid new h.written left all (sym h.whole) h.holds g

pub front_all : (old all mid left new : List ℕ) → AddsFront old all left mid → new ≡ mid ++ left → new ≡ old ++ all
front_all old all mid left new h g = g ∙ ap (λ l. l ++ left) h.holds ∙ append_assoc old h.written left ∙ ap (λ l. old ++ l) (sym h.whole)

-- what holds after a failure holds whatever the result
pub on_any : {A E P : Type 0} (result : Result A E) → P → OnErr result P
on_any (Ok _) p = tt
on_any (Err _) p = p

-- a list of no length
pub none_of : (xs : List ℕ) → (length xs == 0) ≡ true → xs ≡ []
none_of [] h = refl
none_of (x ∷ xs) h = let zero : length (x ∷ xs) ≡ 0 = grind (arith, nat_tests) in absurd (omega (arith, zero))

-- one mark more after others
pub marks_with : (class : ℕ → ℕ) (xs ys : List ℕ) (c : ℕ) → ys ≡ xs ++ c ∷ [] → list_all (is_mark class) xs ≡ true → 0 < class c → list_all (is_mark class) ys ≡ true
marks_with class xs ys c e marks mark = rw e (all_pushed class xs c marks (mark_from class (class c) mark))

-- ---- three characters at the end of a list

three_set : (xs : List ℕ) (n a b c : ℕ) → n + 2 < length xs → take (n + 3) (set (set (set xs n a) (n + 1) b) (n + 2) c) ≡ take n xs ++ a ∷ b ∷ c ∷ []
three_set xs n a b c lt =
    let one = set xs n a in
    let two = set one (n + 1) b in
    let one_long : length one ≡ length xs = length-set xs n a in
    let two_long : length two ≡ length one = length-set one (n + 1) b in
    let first : take (n + 1) one ≡ take n xs ++ a ∷ [] = take_more_set xs n a (omega arith) in
    let second : take (n + 2) two ≡ take (n + 1) one ++ b ∷ [] = ap (λ k. take k two) (omega arith) ∙ take_more_set one (n + 1) b (omega arith) in
    let third : take (n + 3) (set two (n + 2) c) ≡ take (n + 2) two ++ c ∷ [] = ap (λ k. take k (set two (n + 2) c)) (omega arith) ∙ take_more_set two (n + 2) c (omega arith) in
    third ∙ ap (λ l. l ++ c ∷ []) (second ∙ ap (λ l. l ++ b ∷ []) first ∙ append_assoc (take n xs) (a ∷ []) (b ∷ [])) ∙ append_assoc (take n xs) (a ∷ b ∷ []) (c ∷ [])

-- some of them
pub some_set : (xs : List ℕ) (n k a b c : ℕ) → n + 2 < length xs → k ≤ 3 → take (n + k) (set (set (set xs n a) (n + 1) b) (n + 2) c) ≡ take n xs ++ take k (a ∷ b ∷ c ∷ [])
some_set xs n k a b c lt le =
    let all = set (set (set xs n a) (n + 1) b) (n + 2) c in
    let long : length (take n xs) ≡ n = length-take-le n xs (omega arith) in
    sym (take-take (n + k) (n + 3) all (omega arith)) ∙ ap (take (n + k)) (three_set xs n a b c lt)
    ∙ ap (λ m. take (m + k) (take n xs ++ a ∷ b ∷ c ∷ [])) (sym long) ∙ take-append-add (take n xs) (a ∷ b ∷ c ∷ []) k

-- what went in stands after what was held
pub list_kept : (old new : Writer) (read : List ℕ) → writer_data new ≡ writer_data old → held new ≡ held old ++ read → KeepsDue old read new
list_kept old new read same pushed = record {
  at = λ rest.
      ap₂ (λ (k : Canonical) (l : List ℕ). marks_in_order k.class l) same
      (ap (λ l. l ++ rest) pushed ∙ append_assoc (held old) read rest);
}

module _ (encode : List ℕ → List ℕ) (is : IsEncoding encode) where
  -- ---- steps one after another

  pub writes_nothing : (writer : Writer) (sink : List ℕ) → Writes encode writer [] sink sink writer
  writes_nothing writer sink = record { at = λ rest. record { written = []; whole = refl; holds = sym (append-nil sink) } }

  -- the first of two
  first_of : (a b : Writer) (xs ys s t rest : List ℕ) → Writes encode a xs s t b → AddsFront s (due encode a ((xs ++ ys) ++ rest)) (due encode b (ys ++ rest)) t
  first_of a b xs ys s t rest first = front_same s _ _ _ _ t (ap (due encode a) (append_assoc xs ys rest)) refl (first.at (ys ++ rest))

  pub writes_both : (a b c : Writer) (xs ys s t u : List ℕ) → Writes encode a xs s t b → Writes encode b ys t u c → Writes encode a (xs ++ ys) s u c
  writes_both a b c xs ys s t u first second = record { at = λ rest. front_more s _ t _ u _ (first_of a b xs ys s t rest first) (second.at rest) }

  pub part_second : (a b : Writer) (xs ys s t u : List ℕ) → Writes encode a xs s t b → WritesPart encode b ys t u → WritesPart encode a (xs ++ ys) s u
  part_second a b xs ys s t u first second = record { at = λ rest. front_cut s _ t _ u (first_of a b xs ys s t rest first) (second.at rest) }

  -- the sink took nothing of the second
  pub part_first : (a : Writer) (xs ys s t : List ℕ) → WritesPart encode a xs s t → WritesPart encode a (xs ++ ys) s t
  part_first a xs ys s t first =
      record { at = λ rest. let one = first.at (ys ++ rest) in (one.0, one.1, ap (due encode a) (append_assoc xs ys rest) ∙ one.2, one.3) }

  -- memory ran out
  pub part_nothing : (a : Writer) (xs s : List ℕ) → WritesPart encode a xs s s
  part_nothing a xs s = record { at = λ rest. ([], _, refl, sym (append-nil s)) }

  -- ---- one character

  pub due_kept : (old new : Writer) (read : List ℕ) (sink : List ℕ) → KeepsDue old read new → Writes encode old read sink sink new
  unfolding due
  due_kept old new read sink kept = record {
    at = λ rest. record {
      written = [];
      whole = ap encode (sym (kept.at rest));
      holds = sym (append-nil sink);
    };
  }

  -- what is held comes out before a starter, and then the starter
  starter_due : (writer : Writer) (c : ℕ) (rest : List ℕ) → (writer_data writer).class c ≡ 0
      → due encode writer (c ∷ rest) ≡ due encode writer [] ++ (encode (c ∷ []) ++ encode (marks_in_order (writer_data writer).class rest))
  unfolding due
  starter_due writer c rest starter =
      let class = (writer_data writer).class in
      ap encode (order_before class c (held writer) rest starter) ∙ is.append (marks_in_order class (held writer)) (c ∷ marks_in_order class rest)
      ∙ ap₂ (λ front back. encode (marks_in_order class front) ++ back) (sym (append-nil (held writer))) (is.append (c ∷ []) (marks_in_order class rest))

  pub nothing_held : (writer : Writer) (rest : List ℕ) → (held writer) ≡ [] → due encode writer rest ≡ encode (marks_in_order (writer_data writer).class rest)
  unfolding due
  nothing_held writer rest none = ap (λ l. encode (marks_in_order (writer_data writer).class (l ++ rest))) none

  pub nothing_due : (writer : Writer) → (held writer) ≡ [] → due encode writer [] ≡ []
  nothing_due writer none = nothing_held writer [] none ∙ ap encode (order_nothing (writer_data writer).class) ∙ is.nothing

  pub starter_written : (old new : Writer) (c : ℕ) (before middle after : List ℕ) → writer_data new ≡ writer_data old → (writer_data old).class c ≡ 0 → held new ≡ []
      → middle ≡ before ++ due encode old [] → after ≡ middle ++ encode (c ∷ []) → Writes encode old (c ∷ []) before after new
  starter_written old new c before middle after same starter empty flushed written = record {
    at = λ rest. record {
      written = due encode old [] ++ encode (c ∷ []);
      whole =
          starter_due old c rest starter ∙ sym (append_assoc (due encode old []) (encode (c ∷ [])) _)
          ∙ ap (λ l. (due encode old [] ++ encode (c ∷ [])) ++ l) (sym (nothing_held new rest empty ∙ ap (λ (k : Canonical). encode (marks_in_order k.class rest)) same));
      holds = written ∙ ap (λ l. l ++ encode (c ∷ [])) flushed ∙ append_assoc before (due encode old []) (encode (c ∷ []));
    };
  }

  -- the sink took a part of the starter
  pub starter_cut : (old : Writer) (c : ℕ) (before middle after : List ℕ) → (writer_data old).class c ≡ 0
      → middle ≡ before ++ due encode old [] → AddsPrefix middle (encode (c ∷ [])) after → WritesPart encode old (c ∷ []) before after
  starter_cut old c before middle after starter flushed part =
      record { at = λ rest. joined_back before middle after (due encode old []) _ _ (sym (starter_due old c rest starter)) flushed (joined_front middle after _ _ _ refl part) }

  -- the sink took a part of what is held
  pub held_cut : (old : Writer) (c : ℕ) (before after : List ℕ) → (writer_data old).class c ≡ 0 → AddsPrefix before (due encode old []) after → WritesPart encode old (c ∷ []) before after
  held_cut old c before after starter part = record { at = λ rest. joined_front before after _ _ _ (sym (starter_due old c rest starter)) part }

  -- what is held, in order
  pub marks_due : (writer : Writer) (ys : List ℕ) → ys ≡ marks_in_order (writer_data writer).class (held writer) → encode ys ≡ due encode writer []
  unfolding due
  marks_due writer ys sorted = ap encode (sorted ∙ ap (marks_in_order (writer_data writer).class) (sym (append-nil (held writer))))

  -- few, which stand in order
  pub few_due : (writer : Writer) (ys : List ℕ) → ys ≡ take writer.count writer.few → writer.more.items ≡ [] → encode ys ≡ due encode writer []
  few_due writer ys is none =
      let all : held writer ≡ ys = ap (λ l. take writer.count writer.few ++ l) none ∙ append-nil (take writer.count writer.few) ∙ sym is in
      marks_due writer ys (sym (ap (marks_in_order (writer_data writer).class) all
      ∙ stands_order (writer_data writer).class 0 writer.last ys (subst (λ l. stands_to (writer_data writer).class 0 writer.last l ≡ true) (sym is) writer.order)))

  -- ---- a text

  pub text_due : (writer : Writer) (canonical : Canonical) (cs : List ℕ) → writer_data writer ≡ canonical → (held writer) ≡ []
      → encode (decomposed canonical cs) ≡ due encode writer (flat_map canonical.full cs)
  unfolding decomposed
  text_due writer canonical cs same none =
      sym (nothing_held writer (flat_map canonical.full cs) none ∙ ap (λ (k : Canonical). encode (marks_in_order k.class (flat_map canonical.full cs))) same)

  -- the first of the characters that are left
  text_next : (old : Writer) (canonical : Canonical) (c : ℕ) (cs rest : List ℕ) → writer_data old ≡ canonical → cs ≡ c ∷ rest
      → due encode old (flat_map canonical.full cs) ≡ due encode old ((writer_data old).full c ++ flat_map canonical.full rest)
  text_next old canonical c cs rest same next =
      ap (due encode old) (ap (flat_map canonical.full) next ∙ ap (λ (k : Canonical). k.full c ++ flat_map canonical.full rest) (sym same))

  pub text_more : (old new : Writer) (canonical : Canonical) (c : ℕ) (cs rest base all mid after : List ℕ) → writer_data old ≡ canonical → cs ≡ c ∷ rest
      → AddsFront base all (due encode old (flat_map canonical.full cs)) mid
      → AddsFront mid (due encode old ((writer_data old).full c ++ flat_map canonical.full rest)) (due encode new (flat_map canonical.full rest)) after
      → AddsFront base all (due encode new (flat_map canonical.full rest)) after
  text_more old new canonical c cs rest base all mid after same next before step =
      front_more base all mid _ after _ (front_same base all _ all _ mid refl (text_next old canonical c cs rest same next) before) step

  pub text_cut : (old : Writer) (canonical : Canonical) (c : ℕ) (cs rest base all mid after : List ℕ) → writer_data old ≡ canonical → cs ≡ c ∷ rest
      → AddsFront base all (due encode old (flat_map canonical.full cs)) mid
      → AddsPrefix mid (due encode old ((writer_data old).full c ++ flat_map canonical.full rest)) after → AddsPrefix base all after
  text_cut old canonical c cs rest base all mid after same next before part =
      front_cut base all mid _ after (front_same base all _ all _ mid refl (text_next old canonical c cs rest same next) before) part
