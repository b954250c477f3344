-- Elements with plain primaries, one after another: their bytes, and how a buffer takes them.
use Rattle.std.proofs.Common.{◌≡◌, ◌≢◌, ℕ, zero, suc, ◌<◌, ◌≤◌, ◌+◌, ◌-◌, ◌/◌, ◌^◌, Bool, true, false, List, [], ◌∷◌, ◌++◌, length, drop, take, get_or, set, refl, sym, ◌∙◌, ap, subst, append_assoc, arith}
use Rattle.std.specs.Prelude.{◌==◌, cond, flat_map, All}
use Rattle.std.proofs.lemmas.Bool.Decides.{nat_tests}
use Rattle.std.proofs.lemmas.Grind.{take-set_at}
use Rattle.std.proofs.lemmas.List.{flat_map_more, get_or-drop, length-drop, length-set, take-set, take_more, take_more_set}
use Rattle.std.proofs.lemmas.List.Elements.{All-more}
use Rattle.icu_collator_core.specs.WeightRules.{primary_bytes, primary_rest}
use Rattle.icu_collator.specs.PlainPrimaries.{between, own_bytes}

-- one more element
module _ (xs : List ℕ) (from index x : ℕ) (onward : from ≤ index) (inside : index < length xs) (is : x ≡ get_or xs index x) where
  inside_rest : index - from < length (drop from xs)
  inside_rest = let n = length-drop from xs in omega (arith, n, onward, inside)

  last_is : get_or (drop from xs) (index - from) x ≡ x
  last_is =
      let there : from + (index - from) ≡ index = omega (arith, onward) in
      get_or-drop from xs (index - from) x ∙ ap (λ n. get_or xs n x) there ∙ sym is

  count_is : index - from + 1 ≡ index + 1 - from
  count_is = omega (arith, onward)

  pub between_more : between from (index + 1) xs ≡ between from index xs ++ x ∷ []
  between_more =
      ap (λ n. take n (drop from xs)) (sym count_is)
      ∙ take_more (drop from xs) (index - from) x inside_rest
      ∙ ap (λ y. between from index xs ++ y ∷ []) last_is

  pub all_more : (P : ℕ → Type 0) → All P (between from index xs) → P x → All P (between from (index + 1) xs)
  all_more P all one =
      subst (λ n. All P (take n (drop from xs))) count_is
      (All-more P (drop from xs) (index - from) x inside_rest all (subst P (sym last_is) one))

  pub bytes_more :
      (bytes : ℕ → List ℕ) (start before after : List ℕ) → before ≡ start ++ flat_map bytes (between from index xs) → after ≡ before ++ bytes x
      → after ≡ start ++ flat_map bytes (between from (index + 1) xs)
  bytes_more bytes start before after so_far more =
      more ∙ ap (λ l. l ++ bytes x) so_far ∙ flat_map_more bytes start (between from index xs) x
      ∙ ap (λ l. start ++ flat_map bytes l) (sym between_more)

-- none yet
pub between_none : (xs : List ℕ) (from : ℕ) → between from from xs ≡ []
between_none xs from = let none : from - from ≡ 0 = omega arith in ap (λ n. take n (drop from xs)) none

-- the bytes of an element without a primary, and of one with two bytes
pub no_bytes : (left_out bits : ℕ) → bits / 2 ^ 32 ≡ 0 → own_bytes left_out bits ≡ []
unfolding own_bytes
no_bytes left_out bits none = rw none refl

pub two_bytes : (left_out bits lead second : ℕ) → bits / 2 ^ 32 ≢ 0 → lead ≡ bits / 2 ^ 32 / 2 ^ 24 → primary_rest (bits / 2 ^ 32) ≡ second ∷ []
    → own_bytes left_out bits ≡ drop left_out (lead ∷ second ∷ [])
unfolding own_bytes
two_bytes left_out bits lead second some led rest =
    let test : (bits / 2 ^ 32 == 0) ≡ false = grind (arith, nat_tests) in
    ap (λ (b : Bool). cond b [] (drop left_out (primary_bytes (bits / 2 ^ 32)))) test
    ∙ ap (λ l. drop left_out (bits / 2 ^ 32 / 2 ^ 24 ∷ l)) rest ∙ ap (λ n. drop left_out (n ∷ second ∷ [])) (sym led)

-- two bytes after what a buffer holds, and one in the place of the first
two_put : (array : List ℕ) (n last end a b : ℕ) → n + 1 < length array → last ≡ n + 1 → end ≡ last + 1
    → take end (set (set array n a) last b) ≡ take n array ++ a ∷ b ∷ []
two_put array n last end a b room there behind =
    let inside : n < length array = omega (arith, room) in
    let inside_too : last < length (set array n a) = let same = length-set array n a in omega (arith, room, same, there) in
    take-set_at (set array n a) last end b behind inside_too
    ∙ ap (λ m. take m (set array n a) ++ b ∷ []) there
    ∙ ap (λ l. l ++ b ∷ []) (take_more_set array n a inside)
    ∙ append_assoc (take n array) (a ∷ []) (b ∷ [])

one_put : (array : List ℕ) (n last end a b : ℕ) → n + 1 < length array → last ≡ n → end ≡ last + 1
    → take end (set (set array n a) last b) ≡ take n array ++ b ∷ []
one_put array n last end a b room there behind =
    let inside : last < length (set array n a) = let same = length-set array n a in omega (arith, room, same, there) in
    take-set_at (set array n a) last end b behind inside
    ∙ ap (λ m. take m (set array n a) ++ b ∷ []) there
    ∙ ap (λ l. l ++ b ∷ []) (take-set array n a)

rest_put : (array : List ℕ) (n a b left_out : ℕ) → left_out ≤ 1 → n + 1 < length array
    → take (n + 2 - left_out) (set (set array n a) (n + 1 - left_out) b) ≡ take n array ++ drop left_out (a ∷ b ∷ [])
rest_put array n a b zero few room = two_put array n (n + 1 - 0) (n + 2 - 0) a b room (omega arith) (omega arith)
rest_put array n a b (suc zero) few room = one_put array n (n + 1 - 1) (n + 2 - 1) a b room (omega arith) (omega arith)
rest_put array n a b (suc (suc more)) few room = absurd (omega (arith, few))

pub two_put_in :
    (is_long : Bool) (list array : List ℕ) (n a b left_out : ℕ) → left_out ≤ 1 → (is_long ≡ true → n ≡ 512) → n ≤ 510 → length array ≡ 512
    → cond is_long list (take (n + 2 - left_out) (set (set array n a) (n + 1 - left_out) b)) ≡ cond is_long list (take n array) ++ drop left_out (a ∷ b ∷ [])
two_put_in true list array n a b left_out few full room is = absurd (let at = full refl in omega (arith, at, room))
two_put_in false list array n a b left_out few full room is = rest_put array n a b left_out few (omega (arith, room, is))
