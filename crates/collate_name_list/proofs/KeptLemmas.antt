-- what a list of names keeps: with no names, one more and one less; and what its callers see of it
use Rattle.std.proofs.Common.{◌≡◌, ℕ, ◌<◌, ◌≤◌, Bool, true, not, List, [], ◌∷◌, ◌++◌, length, map, get_or, set, slice_get, Option, Some, None, is_some, IfSome, IfNone, refl, sym, ap, ◌∙◌, subst, arith, true≢false, ◌↔◌, nat_cmp, bytes_eq}
use Rattle.std.specs.List.{All, Contains, insert, remove}
use Rattle.std.specs.Cmp.Lexicographic.{slice_cmp}
use Rattle.std.proofs.lemmas.Bool.{false_from_ne_true}
use Rattle.std.proofs.lemmas.Slice.Eq.{bytes_eq-Decides}
use Rattle.std.proofs.lemmas.List.{length-map, get_or-map, map_push, map-set}
use Rattle.std.specs.Option.{option_map}
use Rattle.collate_lists.specs.Names.{in_order}
use Rattle.collate_lists.specs.Search.{IsRankOf}
use Rattle.collate_lists.proofs.NameSearchLemmas.{filter_all}
use Rattle.collate_lists.proofs.NameRankLemmas.{rank_map}
use Rattle.collate_lists.specs.Hashes.{hash_of}
use Rattle.collate_lists.specs.Fronts.{IsFrontOf}
use Rattle.collate_lists.specs.declared.windows.FrontedSlot.{FrontedSlot}
use Rattle.collate_name_list.specs.StoredNames.{StoredName, key_order, names_of, sorted, without, AreDistinct}
use Rattle.collate_name_list.specs.Slots.{AreFronted, slots_of, entry_of, entry_at, IsFull, entries, hash_in, hashes_in, slots_by_key, names_inside, HaveOwnNames, IsKept}
use Rattle.collate_name_list.specs.declared.slots.Stored.{Stored}
use Rattle.collate_name_list.specs.declared.name_list.NameList.TheInside.{Inside}
use Rattle.collate_name_list.proofs.SlotLemmas.{IsSlot, full_below}
use Rattle.collate_name_list.proofs.NameListEntryLemmas.{distinct_from_own, own_push, own_emptied, entry_there, name_there}
use Rattle.collate_name_list.proofs.SlotRankLemmas.{key_total, names_listed, length_slots, slots_push, slots_remove, all_slots, all_full, name_listed}
use Rattle.collate_name_list.proofs.FrontedLemmas.{slots-insert, slots-remove, push_fronts, remove_fronts}

-- the hashes of one list under the seed of another, which is the same
pub reseeded : (t s : Inside) → t.hashes.seed ≡ s.hashes.seed → hashes_in s.hashes.seed t.slots.items ≡ hashes_in t.hashes.seed t.slots.items
reseeded t s seeds = ap (λ seed. hashes_in seed t.slots.items) (sym seeds)

-- with no names
pub kept_none : (s : Inside) → s.slots.items ≡ [] → s.by_key ≡ [] → s.hashes.hashes ≡ [] → IsKept s
unfolding in_order
kept_none s e k h = record {
  by_key = ap slots_of k ∙ sym (ap slots_by_key e);
  fronts = subst (AreFronted s.slots.items) (sym k) (λ i d l. absurd (omega arith));
  hashes = h ∙ sym (ap (hashes_in s.hashes.seed) e);
  distinct = subst HaveOwnNames (sym e) (λ a b h g same. absurd (true≢false (sym h)));
}

-- one more, at its place
pub kept_push : (o s : Inside) (n : Stored) (keyed : ℕ) (by_key : FrontedSlot) → IsKept o → s.slots.items ≡ o.slots.items ++ Some n ∷ [] → s.by_key ≡ insert o.by_key keyed by_key → s.hashes.hashes ≡ o.hashes.hashes ++ hash_of o.hashes.seed n.bytes.items ∷ [] → s.hashes.seed ≡ o.hashes.seed → by_key.slot ≡ length o.slots.items → IsFrontOf by_key.front n.key → keyed ≤ length (slots_of o.by_key) → (Contains (names_of (entries o.slots.items)) n.bytes.items → ⊥) → IsRankOf (λ m. slice_cmp nat_cmp (entry_at o.slots.items m).key n.key) true (slots_of o.by_key) keyed → IsKept s
kept_push o s n keyed by_key kept es ik hs seeds pk fk lk absent rank_keyed =
    let slots : List (Option Stored) = o.slots.items in
    let rank_key : IsRankOf (λ m. key_order (entry_at slots m) (entry_of n)) true (slots_by_key slots) keyed =
    subst (λ ms. IsRankOf (λ m. slice_cmp nat_cmp (entry_at slots m).key n.key) true ms keyed) kept.by_key rank_keyed in
    let key_bound : keyed ≤ length (slots_by_key slots) = omega (arith, ap length kept.by_key) in
    let keys : slots_of s.by_key ≡ insert (slots_by_key slots) keyed (length slots) =
    ap slots_of ik ∙ slots-insert o.by_key keyed by_key ∙ ap (λ ms. insert ms keyed by_key.slot) kept.by_key ∙ ap (λ m. insert (slots_by_key slots) keyed m) pk in
    let slots_are : All (IsSlot slots) (slots_of o.by_key) = subst (All (IsSlot slots)) (sym kept.by_key) (all_slots key_order slots) in
    let fronts : AreFronted (slots ++ Some n ∷ []) (insert o.by_key keyed by_key) = push_fronts slots n o.by_key keyed by_key slots_are kept.fronts pk fk in
    record {
      by_key = keys ∙ slots_push key_order slots key_total n keyed key_bound rank_key ∙ sym (ap slots_by_key es);
      fronts = subst (λ (ss : List (Option Stored)). AreFronted ss s.by_key) (sym es) (subst (AreFronted (slots ++ Some n ∷ [])) (sym ik) fronts);
      hashes =
          hs ∙ ap (λ xs. xs ++ hash_of o.hashes.seed n.bytes.items ∷ []) kept.hashes ∙ sym (map_push (hash_in o.hashes.seed) slots (Some n))
          ∙ sym (ap (hashes_in o.hashes.seed) es) ∙ reseeded s o seeds;
      distinct = subst HaveOwnNames (sym es) (own_push slots n kept.distinct absent);
    }

-- one less, taken from its place
pub kept_remove : (o s : Inside) (k keyed : ℕ) → IsKept o → s.slots.items ≡ set o.slots.items k None → s.by_key ≡ remove o.by_key keyed → s.hashes.hashes ≡ set o.hashes.hashes k 0 → s.hashes.seed ≡ o.hashes.seed → IsFull o.slots.items k → slice_get (slots_of o.by_key) keyed ≡ Some k → IsKept s
kept_remove o s k keyed kept es rk hs seeds full gk =
    let slots : List (Option Stored) = o.slots.items in
    let less : List (Option Stored) = set slots k None in
    let within : k < length slots = full_below slots k full in
    let keys : slots_of (remove o.by_key keyed) ≡ slots_by_key less =
    slots-remove o.by_key keyed ∙ ap (λ ms. remove ms keyed) kept.by_key
    ∙ slots_remove key_order slots key_total k keyed full (sym (ap (λ ms. slice_get ms keyed) kept.by_key) ∙ gk) in
    let fronts : AreFronted less (remove o.by_key keyed) =
    remove_fronts slots k keyed o.by_key within (subst (All (IsFull less)) (sym keys) (all_full key_order less)) kept.fronts in
    record {
      by_key = ap slots_of rk ∙ keys ∙ sym (ap slots_by_key es);
      fronts = subst (λ (ss : List (Option Stored)). AreFronted ss s.by_key) (sym es) (subst (AreFronted less) (sym rk) fronts);
      hashes =
          hs ∙ ap (λ xs. set xs k 0) kept.hashes ∙ sym (map-set (hash_in o.hashes.seed) slots k None)
          ∙ sym (ap (hashes_in o.hashes.seed) es) ∙ reseeded s o seeds;
      distinct = subst HaveOwnNames (sym es) (own_emptied slots k within kept.distinct);
    }

-- the same, with the same hashes
pub kept_same : (s t : Inside) → IsKept s → t.slots.items ≡ s.slots.items → t.by_key ≡ s.by_key → t.hashes.hashes ≡ s.hashes.hashes → t.hashes.seed ≡ s.hashes.seed → IsKept t
kept_same s t kept e k h seeds = record {
  by_key = ap slots_of k ∙ kept.by_key ∙ sym (ap slots_by_key e);
  fronts = subst (λ (ss : List (Option Stored)). AreFronted ss t.by_key) (sym e) (subst (AreFronted s.slots.items) (sym k) kept.fronts);
  hashes = h ∙ kept.hashes ∙ sym (ap (hashes_in s.hashes.seed) e) ∙ reseeded t s seeds;
  distinct = subst HaveOwnNames (sym e) kept.distinct;
}

-- ---- what callers see

-- a name that isn't there is not left out
pub without_absent : (names : List StoredName) (name : List ℕ) → (Contains (names_of names) name → ⊥) → without name names ≡ names
without_absent names name absent =
    filter_all (λ e. not (bytes_eq e.name name)) names (λ i d l.
    let own : List ℕ = (get_or names i d).name in
    let other : own ≡ name → ⊥ = λ (e : own ≡ name).
    absent (i, omega (arith, length-map names (λ (e : StoredName). e.name)), get_or-map (λ (e : StoredName). e.name) names i d name l ∙ e) in
    ap not (false_from_ne_true (bytes_eq own name) (λ (t : bytes_eq own name ≡ true). other ((bytes_eq-Decides own name).0 t))))

-- whether a name is there is whether its slot was found
pub told_there : (slots : List (Option Stored)) (name : List ℕ) (r : Option ℕ) → IfSome r (IsFull slots) → IfSome r (λ m. (entry_at slots m).name ≡ name) → IfNone r (Contains (names_of (entries slots)) name → ⊥) → (is_some r ≡ true) ↔ Contains (names_of (entries slots)) name
told_there slots name None f n a = (λ t. absurd (true≢false (sym t)), λ h. absurd (a h))
told_there slots name (Some m) f n a = (λ t. name_there slots m name f n, λ h. refl)

module _ (s : Inside) (kept : IsKept s) (now : List StoredName) (is : names_inside s ≡ now) where
  pub length_kept : length (slots_of s.by_key) ≡ length now
  length_kept = ap length kept.by_key ∙ length_slots key_order s.slots.items ∙ ap length is

  pub length_sorted : length (slots_of s.by_key) ≡ length (sorted now)
  length_sorted =
      ap length kept.by_key
      ∙ sym (length-map (slots_by_key s.slots.items) (entry_at s.slots.items))
      ∙ ap length (names_listed key_order s.slots.items)
      ∙ ap (λ ns. length (sorted ns)) is

  pub distinct_kept : AreDistinct now
  distinct_kept = subst AreDistinct is (distinct_from_own s.slots.items kept.distinct)

  -- a name is there exactly if its slot was found
  pub told_kept : (slots : List (Option Stored)) → slots ≡ s.slots.items → (name : List ℕ) (r : Option ℕ) → IfSome r (IsFull slots) → IfSome r (λ m. (entry_at slots m).name ≡ name) → IfNone r (Contains (names_of (entries slots)) name → ⊥) → (is_some r ≡ true) ↔ Contains (names_of now) name
  told_kept slots e name r full named absent =
      subst (λ (ns : List StoredName). (is_some r ≡ true) ↔ Contains (names_of ns) name) (ap entries e ∙ is) (told_there slots name r full named absent)

  -- a place among slots is that among names
  pub rank_sorted : (past : Bool) (key : List ℕ) (at : ℕ) → at ≤ length (slots_of s.by_key) → IsRankOf (λ m. slice_cmp nat_cmp (entry_at s.slots.items m).key key) past (slots_of s.by_key) at → IsRankOf (λ e. slice_cmp nat_cmp e.key key) past (sorted now) at
  rank_sorted past key at l place =
      subst (λ ns. IsRankOf (λ e. slice_cmp nat_cmp e.key key) past ns at)
      (ap (map (entry_at s.slots.items)) kept.by_key ∙ names_listed key_order s.slots.items ∙ ap sorted is)
      (rank_map (entry_at s.slots.items) (λ e. slice_cmp nat_cmp e.key key) past (slots_of s.by_key) at l place)

  pub name_sorted : (place : ℕ) → slice_get (names_of (sorted now)) place ≡ option_map (λ (e : StoredName). e.name) (option_map (entry_at s.slots.items) (slice_get (slots_of s.by_key) place))
  name_sorted place = sym (ap (λ ns. slice_get (names_of (sorted ns)) place) is) ∙ name_listed s.slots.items (slots_of s.by_key) place kept.by_key

  -- the key that stands in the slot of a name
  pub stored_kept : (slots : List (Option Stored)) → slots ≡ s.slots.items → (slot : ℕ) (name key : List ℕ) → IsFull slots slot → (entry_at slots slot).name ≡ name → key ≡ (entry_at slots slot).key → Contains now (record { key = key; name = name })
  stored_kept slots e slot name key full named keyed =
      let there : entry_at slots slot ≡ record { key = key; name = name } =
      ap (λ (n : List ℕ). record { key = (entry_at slots slot).key; name = n }) named ∙ ap (λ (k : List ℕ). record { key = k; name = name }) (sym keyed) in
      subst (λ (ns : List StoredName). Contains ns (record { key = key; name = name })) (ap entries e ∙ is) (entry_there slots slot (record { key = key; name = name }) full there)
