-- The limits, line by line.
use Rattle.std.proofs.Common.{◌≡◌, ℕ, ◌+◌, ◌*◌, ◌<◌, ◌≤◌, ◌⊎◌, Bool, true, false, cond, List, [], ◌∷◌, ◌++◌, length, map, take, get_or, refl, sym, ap, ◌∙◌, subst, arith, below_more, append-nil, inl, inr, ⊎_elim, length-append}
use Rattle.std.specs.Prelude.{flat_map, filter, count_by, sum_by}
use mir.Val.{bool_byte}
use Rattle.std.proofs.lemmas.Bool.{cases_lt}
use Rattle.std.specs.BTreeSet.{btree_set_len}
use Rattle.std.proofs.lemmas.List.{get_or-map, take_more, length-map, length-take}
use Rattle.std.proofs.lemmas.List.Elements.{filter-append}
use Rattle.std.proofs.lemmas.List.Sums.{count_by-le-length, length-filter, sum_by_push}
use Rattle.std.proofs.lemmas.Grind.{flat_map-append}
use Rattle.std.proofs.lemmas.Option.{unwrap_or-slice_get}
use Rattle.icu_normalizer_core.specs.Named.{narrow_block, wide_block}
use Rattle.collate_lines.specs.declared.record.Record.{Record as Line}
use Rattle.collate_lines.specs.declared.limits.Limits.{Limits}
use Rattle.collate_lines.specs.Record.{Record, nothing, said}
use Rattle.collate_lines.specs.Repeats.{record_at, says_something}
use Rattle.collate_rules.specs.declared.counts.Counts.{Counts}
use Rattle.collate_rules.specs.declared.names.Names.{Names}
use Rattle.collate_rules.specs.Rules.{named, IsLong, IsOverLimit, LackRoom, blocks_in, names_in}
use Rattle.collate_rules.specs.Limits.{AreCounted, AreNamed, AreSmall, PassLimits, PassRoom}

-- the first i lines are within the limits
pub record AreWithin (limits : Limits) (records : List Record) (i : ℕ) (counts : Counts) : Type 0 where
  pub counted : AreCounted records (take i records) counts
  pub ranges : counts.ranges ≤ 11000
  pub elements : counts.elements ≤ 520000
  pub beside : counts.beside ≤ 3600
  pub canonical : counts.canonical ≤ 16000
  pub mappings : counts.mappings ≤ 16000
  pub before : (k : ℕ) → k < i → IsOverLimit limits records k → ⊥

-- line i
pub said_of : (lines : List Line) (i : ℕ) (x : Line) → i < length lines → x ≡ get_or lines i x → get_or (map said lines) i nothing ≡ said x
said_of lines i x h e = get_or-map said lines i x nothing h ∙ ap said (sym e)

pub lines_to : (lines : List Line) (i : ℕ) (x : Line) → i < length lines → x ≡ get_or lines i x → take (i + 1) (map said lines) ≡ take i (map said lines) ++ said x ∷ []
lines_to lines i x h e =
    take_more (map said lines) i nothing (omega (arith, length-map lines said))
    ∙ ap (λ (s : Record). take i (map said lines) ++ s ∷ []) (said_of lines i x h e)

-- what is taken from each line, one line further
pub given_to : {A : Type 0} (give : Record → List A) (lines : List Line) (i : ℕ) (x : Line) → i < length lines → x ≡ get_or lines i x
    → flat_map give (take (i + 1) (map said lines)) ≡ flat_map give (take i (map said lines)) ++ give (said x)
given_to {A} give lines i x h e =
    ap (λ (ss : List Record). flat_map give ss) (lines_to lines i x h e)
    ∙ flat_map-append give (take i (map said lines)) (said x ∷ [])
    ∙ ap (λ (cs : List A). flat_map give (take i (map said lines)) ++ cs) (append-nil (give (said x)))

-- no line yet
pub within_none : (limits : Limits) (records : List Record) (counts : Counts) → AreCounted records [] counts → AreWithin limits records 0 counts
within_none limits records counts none = record {
  counted = none;
  ranges = omega (arith, none.ranges);
  elements = omega (arith, none.elements);
  beside = omega (arith, none.beside);
  canonical = omega (arith, none.canonical);
  mappings = omega (arith, none.mappings);
  before = λ k h over. absurd (omega arith);
}

-- one line more can be counted
pub small_at : (limits : Limits) (lines : List Line) (i : ℕ) (counts : Counts) → i < length lines → length lines < 0x10000000000000000 → AreWithin limits (map said lines) i counts → AreSmall counts
small_at limits lines i counts h fits within = record {
  ranges = omega (arith, within.ranges);
  records = let some = take i (map said lines) in
      omega (arith, within.counted.records, length-filter says_something some, count_by-le-length says_something some, length-take i (map said lines), length-map lines said);
  elements = within.elements;
  beside = within.beside;
  canonical = within.canonical;
  mappings = within.mappings;
}

-- ---- What is counted of one line more

byte_is : (n : ℕ) (t u : Bool) → n ≡ bool_byte t → t ≡ u → n ≡ cond u 1 0
byte_is n t true e f = e ∙ ap bool_byte f
byte_is n t false e f = e ∙ ap bool_byte f

one_kept : (s : Record) (b : Bool) → says_something s ≡ b → length (filter says_something (s ∷ [])) ≡ cond b 1 0
one_kept s b e = ap (λ (t : Bool). length (cond t (s ∷ []) [])) e ∙ kept b
  where
    kept : (t : Bool) → length (cond t (s ∷ []) []) ≡ cond t 1 0
    kept true = refl
    kept false = refl

-- names of one line more
pub named_more : (names : Names) (lines : List Record) (s : Record) → AreNamed names (flat_map named lines ++ named s) → AreNamed names (flat_map named (lines ++ s ∷ []))
named_more names lines s has =
    subst (AreNamed names)
    (sym (flat_map-append named lines (s ∷ []) ∙ ap (λ (cs : List ℕ). flat_map named lines ++ cs) (append-nil (named s))))
    has

-- a sum with one line more
pub sum_more : (f : Record → ℕ) (lines : List Record) (s : Record) (n more : ℕ) → n ≡ sum_by f lines → more ≡ f s → n + more ≡ sum_by f (lines ++ s ∷ [])
sum_more f lines s n more e h = omega (arith, sum_by_push f lines s, e, h)

-- a count with one line more
pub count_more : (p : Record → Bool) (lines : List Record) (s : Record) (n more : ℕ) (t : Bool) → n ≡ count_by p lines → more ≡ bool_byte t → t ≡ p s → n + more ≡ count_by p (lines ++ s ∷ [])
count_more p lines s n more t e h same = sum_more (λ r. cond (p r) 1 0) lines s n more e (byte_is more t (p s) h same)

-- the lines that say something, with one line more
pub records_more : (lines : List Record) (s : Record) (n more : ℕ) (t : Bool) → n ≡ length (filter says_something lines) → more ≡ bool_byte t → t ≡ says_something s → n + more ≡ length (filter says_something (lines ++ s ∷ []))
records_more lines s n more t e h same =
    let one = one_kept s (says_something s) refl in
    let byte = byte_is more t (says_something s) h same in
    let both = ap length (filter-append says_something lines (s ∷ [])) ∙ length-append (filter says_something lines) (filter says_something (s ∷ [])) in
    omega (arith, one, byte, both, e)

-- ---- Whether a limit is passed

either : {A B C D : Type 0} → (A → C) → (B → D) → A ⊎ B → C ⊎ D
either f g w = ⊎_elim (λ a. inl (f a)) (λ b. inr (g b)) w

more_than : (n a b : ℕ) → a ≡ b → n < a → n < b
more_than n a b e h = omega (arith, e, h)

module _ (records lines : List Record) (counts : Counts) (counted : AreCounted records lines counts) where
  wide_same : btree_set_len counts.names.wide + 3 * counts.ranges ≡ blocks_in wide_block lines
  wide_same = omega (arith, counted.names.wide.count, counted.ranges)

  narrow_same : btree_set_len counts.names.narrow + 3 * counts.ranges ≡ blocks_in narrow_block lines
  narrow_same = omega (arith, counted.names.narrow.count, counted.ranges)

  names_same : btree_set_len counts.names.characters + counts.ranges ≡ names_in lines
  names_same = omega (arith, counted.names.characters.count, counted.ranges)

  room_lacks : PassRoom counts → LackRoom records lines
  room_lacks = either (more_than 700 _ _ wide_same)
      (either (more_than 11000 _ _ narrow_same)
      (either (more_than 520000 _ _ counted.elements)
      (either (more_than 3600 _ _ counted.beside)
      (either (more_than 16000 _ _ counted.canonical) (more_than 16000 _ _ counted.mappings)))))

  room_passed : LackRoom records lines → PassRoom counts
  room_passed = either (more_than 700 _ _ (sym wide_same))
      (either (more_than 11000 _ _ (sym narrow_same))
      (either (more_than 520000 _ _ (sym counted.elements))
      (either (more_than 3600 _ _ (sym counted.beside))
      (either (more_than 16000 _ _ (sym counted.canonical)) (more_than 16000 _ _ (sym counted.mappings))))))

module _ (limits : Limits) (lines : List Line) (i : ℕ) (x : Line) (h : i < length lines) (is : x ≡ get_or lines i x) (counts : Counts)
    (counted : AreCounted (map said lines) (take i (map said lines) ++ said x ∷ []) counts) where
  says : said x ≡ record_at (map said lines) i
  says = sym (unwrap_or-slice_get (map said lines) i nothing ∙ said_of lines i x h is)

  here : AreCounted (map said lines) (take (i + 1) (map said lines)) counts
  here = subst (λ (some : List Record). AreCounted (map said lines) some counts) (sym (lines_to lines i x h is)) counted

  -- line i passes a limit
  pub over_at : PassLimits limits counts (said x) → IsOverLimit limits (map said lines) i
  over_at = either (more_than limits.code_points _ _ (names_same _ _ counts here))
      (either (more_than limits.records _ _ here.records) (either (room_lacks _ _ counts here) (subst IsLong says)))

  passed_at : IsOverLimit limits (map said lines) i → PassLimits limits counts (said x)
  passed_at = either (more_than limits.code_points _ _ (sym (names_same _ _ counts here)))
      (either (more_than limits.records _ _ (sym here.records)) (either (room_passed _ _ counts here) (subst IsLong (sym says))))

  -- no line up to line i passes one
  pub within_more : (old : Counts) → AreWithin limits (map said lines) i old → (PassLimits limits counts (said x) → ⊥) → AreWithin limits (map said lines) (i + 1) counts
  within_more old within unpassed =
      let room : PassRoom counts → ⊥ = λ room. unpassed (inr (inr (inl room))) in record {
        counted = here;
        ranges = at_most 11000 counts.ranges (λ past. room (inr (inl (omega (arith, past)))));
        elements = at_most 520000 counts.elements (λ past. room (inr (inr (inl past))));
        beside = at_most 3600 counts.beside (λ past. room (inr (inr (inr (inl past)))));
        canonical = at_most 16000 counts.canonical (λ past. room (inr (inr (inr (inr (inl past))))));
        mappings = at_most 16000 counts.mappings (λ past. room (inr (inr (inr (inr (inr past))))));
        before = below_more (λ k. IsOverLimit limits (map said lines) k → ⊥) i within.before (λ over. unpassed (passed_at over));
      }
    where
      at_most : (n m : ℕ) → (n < m → ⊥) → m ≤ n
      at_most n m h = ⊎_elim (λ (past : n < m). absurd (h past)) (λ (few : m ≤ n). few) (cases_lt n m)
