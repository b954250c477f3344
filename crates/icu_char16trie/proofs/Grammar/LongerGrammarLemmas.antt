-- Units that keep the grammar mean the same with more after them.
use Rattle.std.proofs.Common.{◌≡◌, ◌≢◌, ℕ, ℤ, ◌+◌, ◌++◌, List, [], ◌∷◌, Option, Some, None, refl, ap, ◌∙◌, sym, subst}
use Rattle.std.specs.Int.{cast_signed, w32}
use Rattle.icu_char16trie.specs.Cursors.{value_of_key}
use Rattle.icu_char16trie.specs.UnitMaps.{at_node, MapsKey}
use Rattle.icu_char16trie.specs.UnitPairs.{Has}
use Rattle.icu_char16trie.specs.UnitGrammar.{GrammarPart, spot, IsSound, sound_end, sound_node, sound_run, sound_run_end, sound_branch, sound_last, sound_value, sound_jump, sound_halves, IsUnitTrie, no_units, rooted}
use Rattle.icu_char16trie.specs.declared.node.Target.TheVariants.{Value, Node}
use Rattle.icu_char16trie.proofs.Grammar.ListingLemmas.{Pair, behind_unit, with_value, listing, listed_spelled}
use Rattle.icu_char16trie.proofs.Grammar.CompleteListingLemmas.{lists_all}
use Rattle.icu_char16trie.proofs.Reading.OutcomeLemmas.{start-spells}
use Rattle.icu_char16trie.proofs.Grammar.LongerStepLemmas.{get_stays, entry_stays, target_stays, delta_stays, landing_stays, node_stays}
use Rattle.icu_char16trie.proofs.Cursors.ValueLemmas.{value_spelled}

-- a part that keeps the grammar, in more units, with the same keys and values
pub record IsKept (units : List ℕ) (rule : GrammarPart) (pairs : List Pair) : Type 0 where
  pub sound : IsSound units rule
  pub same : listing units sound ≡ pairs

module _ (units more : List ℕ) where
  pub kept : {rule : GrammarPart} (s : IsSound units rule) → IsKept (units ++ more) rule (listing units s)
  unfolding listing
  kept (sound_end index value node) = record { sound = sound_end index value (node_stays units more node); same = refl }
  kept (sound_node index value next node rest) =
      let k = kept rest in
      record { sound = sound_node index value next (node_stays units more node) k.sound; same = ap (λ pairs. with_value value pairs) k.same }
  kept (sound_run run unit e many rest) =
      let k = kept rest in
      record { sound = sound_run run unit (get_stays units more run.index unit e) many k.sound; same = ap (λ pairs. behind_unit unit pairs) k.same }
  kept (sound_run_end run unit e few rest) =
      let k = kept rest in
      record { sound = sound_run_end run unit (get_stays units more run.index unit e) few k.sound; same = ap (λ pairs. behind_unit unit pairs) k.same }
  kept (sound_branch branch rest) =
      let k = kept rest in
      record { sound = sound_branch branch k.sound; same = k.same }
  kept (sound_last branch low high unit one e above below rest) =
      let k = kept rest in
      record { sound = sound_last branch low high unit one (get_stays units more branch.index unit e) above below k.sound; same = ap (λ pairs. behind_unit unit pairs) k.same }
  kept (sound_value branch low high value entry many few e to above below rest) =
      let k = kept rest in
      record {
        sound = sound_value branch low high value entry many few (entry_stays units more branch.index entry e) (target_stays units more entry (Value value) to) above below k.sound;
        same = ap (λ pairs. (entry.unit ∷ [], cast_signed w32 value) ∷ pairs) k.same;
      }
  kept (sound_jump branch low high index entry many few e to above below node rest) =
      let n = kept node in
      let k = kept rest in
      record {
        sound = sound_jump branch low high index entry many few (entry_stays units more branch.index entry e) (target_stays units more entry (Node index) to) above below n.sound k.sound;
        same = ap (λ pairs. behind_unit entry.unit pairs ++ listing (units ++ more) k.sound) n.same ∙ ap (λ pairs. behind_unit entry.unit (listing units node) ++ pairs) k.same;
      }
  kept (sound_halves branch low high middle index jump many e d lands above below first second) =
      let f = kept first in
      let k = kept second in
      record {
        sound = sound_halves branch low high middle index jump many (get_stays units more branch.index middle e) (delta_stays units more (branch.index + 1) jump d) (landing_stays units more jump index lands) above below f.sound k.sound;
        same = ap (λ pairs. pairs ++ listing (units ++ more) k.sound) f.same ∙ ap (λ pairs. listing units first ++ pairs) k.same;
      }

  pub kept_back : {rule : GrammarPart} (s : IsSound units rule) → IsSound (units ++ more) rule
  kept_back s = (kept s).sound

  -- the first node
  first_kept : (s : IsSound units (spot (at_node 0))) (key : List ℕ) (number : ℤ) → MapsKey (units ++ more) (at_node 0) key number → MapsKey units (at_node 0) key number
  first_kept s key number h =
      let k = kept s in
      listed_spelled units s key number (subst (λ pairs. Has pairs key number) k.same (lists_all (units ++ more) k.sound key number h))

  first_more : (s : IsSound units (spot (at_node 0))) (key : List ℕ) (number : ℤ) → MapsKey units (at_node 0) key number → MapsKey (units ++ more) (at_node 0) key number
  first_more s key number h =
      let k = kept s in
      listed_spelled (units ++ more) k.sound key number (subst (λ pairs. Has pairs key number) (sym k.same) (lists_all units s key number h))

  pub trie_longer : IsUnitTrie units → units ≢ [] → IsUnitTrie (units ++ more)
  trie_longer (no_units e) some = absurd (some e)
  trie_longer (rooted next node rest) some = rooted next (node_stays units more node) (kept_back rest)

  trie-first : IsUnitTrie units → units ≢ [] → IsSound units (spot (at_node 0))
  trie-first (no_units e) some = absurd (some e)
  trie-first (rooted next node rest) some = sound_node 0 None next node rest

  options-same : (a b : Option ℤ) → ((x : ℤ) → a ≡ Some x → b ≡ Some x) → ((x : ℤ) → b ≡ Some x → a ≡ Some x) → a ≡ b
  options-same None None f g = refl
  options-same None (Some y) f g = g y refl
  options-same (Some x) b f g = sym (f x refl)

  pub values_kept : IsUnitTrie units → units ≢ [] → (key : List ℕ) → value_of_key (units ++ more) key ≡ value_of_key units key
  values_kept trie some key =
      let longer = trie_longer trie some in
      let s = trie-first trie some in
      options-same (value_of_key (units ++ more) key) (value_of_key units key)
      (λ number e. (value_spelled units key number).1 ((start-spells units trie key number).1 (first_kept s key number
      ((start-spells (units ++ more) longer key number).0 ((value_spelled (units ++ more) key number).0 e)))))
      (λ number e. (value_spelled (units ++ more) key number).1 ((start-spells (units ++ more) longer key number).1 (first_more s key number
      ((start-spells units trie key number).0 ((value_spelled units key number).0 e)))))
