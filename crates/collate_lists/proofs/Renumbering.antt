-- lists in a row whose values are renumbered, list by list
use Rattle.std.proofs.Common.{◌≡◌, ℕ, zero, suc, ◌+◌, ◌<◌, ◌≤◌, List, [], ◌∷◌, ◌++◌, All, length, get_or, set, refl, sym, ap, ◌∙◌, subst, arith, ⊎_elim, length-set, length-append, get_or-set_same, get_or-set_other, get_or-append-add}
use Rattle.std.proofs.lemmas.Bool.{cases_lt}
use Rattle.std.proofs.lemmas.List.{length-map, map-append, get_or_append_left, get_or_default}
use Rattle.std.specs.Prelude.{vec_capacity}
use Rattle.std.specs.Global.{Vec}
use Rattle.collate_lists.specs.Lists.{joined, starts_from, numbered, renumbered, AreRoomy}
use Rattle.collate_lists.specs.declared.list_rows.TheConstants.{FULL}
use Rattle.collate_lists.specs.declared.windows.FrontedSlot.{FrontedSlot}

-- a list with its values renumbered
pub record IsRenumbered (numbers : List ℕ) (old new : Vec FrontedSlot) : Type 0 where
  pub values : new.items ≡ renumbered numbers old.items
  pub memory : vec_capacity new ≡ vec_capacity old

-- the lists before this one are renumbered, and the others as they were
pub record AreRenumberedBefore (numbers : List ℕ) (part : ℕ) (old new : List (Vec FrontedSlot)) : Type 0 where
  pub count : length new ≡ length old
  pub done : (k : ℕ) (d : Vec FrontedSlot) → k < part → k < length old → IsRenumbered numbers (get_or old k d) (get_or new k d)
  pub left : (k : ℕ) (d : Vec FrontedSlot) → part ≤ k → get_or new k d ≡ get_or old k d

pub renumbered_none : (numbers : List ℕ) (lists : List (Vec FrontedSlot)) → AreRenumberedBefore numbers 0 lists lists
renumbered_none numbers lists = record { count = refl; done = λ k d l m. absurd (omega arith); left = λ k d l. refl }

pub renumbered_more : (numbers : List ℕ) (part : ℕ) (old new : List (Vec FrontedSlot)) (list changed : Vec FrontedSlot) → part < length old → AreRenumberedBefore numbers part old new → list ≡ get_or new part list → IsRenumbered numbers list changed → AreRenumberedBefore numbers (part + 1) old (set new part changed)
renumbered_more numbers part old new list changed within h is r =
    let inside : part < length new = omega (arith, h.count) in
    let here : (d : Vec FrontedSlot) → IsRenumbered numbers (get_or old part d) (get_or (set new part changed) part d) = λ d.
    let before : get_or old part d ≡ list = sym (h.left part d (omega arith)) ∙ get_or_default new part d list inside ∙ sym is in
    let after : get_or (set new part changed) part d ≡ changed = get_or-set_same new part changed d inside in
    subst (λ x. IsRenumbered numbers (get_or old part d) x) (sym after) (subst (λ x. IsRenumbered numbers x changed) (sym before) r) in
    record {
      count = length-set new part changed ∙ h.count;
      done = λ k d l m.
          ⊎_elim (λ (b : k < part).
          let other : k ≡ part → ⊥ = λ (e : k ≡ part). omega arith in
          subst (λ x. IsRenumbered numbers (get_or old k d) x) (sym (get_or-set_other new part k changed d other)) (h.done k d b m))
          (λ (b : part ≤ k).
          let same : part ≡ k = omega arith in
          subst (λ j. IsRenumbered numbers (get_or old j d) (get_or (set new part changed) j d)) same (here d)) (cases_lt k part);
      left = λ k d l.
          let other : k ≡ part → ⊥ = λ (e : k ≡ part). omega arith in
          get_or-set_other new part k changed d other ∙ h.left k d (omega arith);
    }

-- ---- all of them

rest_renumbered : (numbers : List ℕ) (x y : Vec FrontedSlot) (xs ys : List (Vec FrontedSlot)) → AreRenumberedBefore numbers (length (x ∷ xs)) (x ∷ xs) (y ∷ ys) → IsRenumbered numbers x y × AreRenumberedBefore numbers (length xs) xs ys
rest_renumbered numbers x y xs ys h = (
  h.done 0 x (omega arith) (omega arith),
  record {
    count = omega (arith, h.count);
    done = λ k d l m. h.done (suc k) d (omega arith) (omega arith);
    left = λ k d l. h.left (suc k) d (omega arith);
  },
)

pub joined_renumbered : (numbers : List ℕ) (old new : List (Vec FrontedSlot)) → AreRenumberedBefore numbers (length old) old new → joined new ≡ renumbered numbers (joined old)
joined_renumbered numbers [] [] h = refl
joined_renumbered numbers [] (y ∷ ys) h = absurd (omega (arith, h.count))
joined_renumbered numbers (x ∷ xs) [] h = absurd (omega (arith, h.count))
joined_renumbered numbers (x ∷ xs) (y ∷ ys) h =
    let parts : IsRenumbered numbers x y × AreRenumberedBefore numbers (length xs) xs ys = rest_renumbered numbers x y xs ys h in
    ap (λ zs. zs ++ joined ys) parts.0.values
    ∙ ap (λ zs. renumbered numbers x.items ++ zs) (joined_renumbered numbers xs ys parts.1)
    ∙ sym (map-append (numbered numbers) x.items (joined xs))

pub starts_renumbered : (numbers : List ℕ) (rank : ℕ) (old new : List (Vec FrontedSlot)) → AreRenumberedBefore numbers (length old) old new → starts_from rank new ≡ starts_from rank old
starts_renumbered numbers rank [] [] h = refl
starts_renumbered numbers rank [] (y ∷ ys) h = absurd (omega (arith, h.count))
starts_renumbered numbers rank (x ∷ xs) [] h = absurd (omega (arith, h.count))
starts_renumbered numbers rank (x ∷ xs) (y ∷ ys) h =
    let parts : IsRenumbered numbers x y × AreRenumberedBefore numbers (length xs) xs ys = rest_renumbered numbers x y xs ys h in
    let long : length y.items ≡ length x.items = ap length parts.0.values ∙ length-map x.items (numbered numbers) in
    ap (λ n. rank ∷ starts_from (rank + n) ys) long ∙ ap (λ ns. rank ∷ ns) (starts_renumbered numbers (rank + length x.items) xs ys parts.1)

pub room_renumbered : (numbers : List ℕ) (old new : List (Vec FrontedSlot)) → AreRenumberedBefore numbers (length old) old new → AreRoomy old → AreRoomy new
room_renumbered numbers old new h room k d l =
    let within : k < length old = omega (arith, h.count) in
    let list : IsRenumbered numbers (get_or old k d) (get_or new k d) = h.done k d within within in
    let long : length (get_or new k d).items ≡ length (get_or old k d).items = ap length list.values ∙ length-map (get_or old k d).items (numbered numbers) in
    let was : (length (get_or old k d).items ≤ FULL) × (FULL ≤ vec_capacity (get_or old k d)) = room k d within in
    (omega (arith, was.0, long), omega (arith, was.1, list.memory))

-- ---- what holds of all values holds of those of a list

front_all : (P : FrontedSlot → Type 0) (xs ys : List FrontedSlot) → All P (xs ++ ys) → All P xs
front_all P xs ys h k d l = subst P (get_or_append_left xs ys d k l) (h k d (omega (arith, length-append xs ys)))

back_all : (P : FrontedSlot → Type 0) (xs ys : List FrontedSlot) → All P (xs ++ ys) → All P ys
back_all P xs ys h k d l = subst P (get_or-append-add xs ys k d) (h (length xs + k) d (omega (arith, length-append xs ys)))

pub part_all : (P : FrontedSlot → Type 0) (lists : List (Vec FrontedSlot)) (part : ℕ) (list : Vec FrontedSlot) → part < length lists → list ≡ get_or lists part list → All P (joined lists) → All P list.items
part_all P [] part list l e h = absurd (omega arith)
part_all P (x ∷ xs) zero list l e h = subst (λ (v : Vec FrontedSlot). All P v.items) (sym e) (front_all P x.items (joined xs) h)
part_all P (x ∷ xs) (suc part) list l e h = part_all P xs part list (omega arith) e (back_all P x.items (joined xs) h)
