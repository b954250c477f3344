-- chains: a slot put in, and one taken out
use Rattle.std.proofs.Common.{◌≡◌, ℕ, ◌+◌, ◌-◌, ◌%◌, ◌<◌, ◌≤◌, true, false, cond, List, [], ◌∷◌, ◌++◌, length, get_or, set, refl, sym, ap, ◌∙◌, subst, arith, ⊎_elim}
use Rattle.std.specs.List.{filter}
use Rattle.std.proofs.lemmas.Bool.{cases_lt, cases_eq}
use Rattle.std.proofs.lemmas.List.{length-map, length-set, map-set, map_push, set-get_or, get_or-map, get_or-set_same, get_or-set_other, get_or_append_left, get_or_default}
use Rattle.collate_lists.specs.Hashes.{is_hash}
use Rattle.collate_lists.specs.Chains.{befores_of, hashes_of, IsIn, IsLast, IsLinked, IsLinkedTo}
use Rattle.collate_lists.specs.declared.chains.Link.{Link}

-- ---- what is read

pub hash_read : (links : List Link) (slot : ℕ) (link : Link) → slot < length links → link ≡ get_or links slot link → link.hash ≡ get_or (hashes_of links) slot 0
hash_read links slot link l e = ap (λ (k : Link). k.hash) e ∙ sym (get_or-map (λ (k : Link). k.hash) links slot link 0 l)

pub before_read : (links : List Link) (slot : ℕ) (link : Link) → slot < length links → link ≡ get_or links slot link → link.before ≡ get_or (befores_of links) slot 0
before_read links slot link l e = ap (λ (k : Link). k.before) e ∙ sym (get_or-map (λ (k : Link). k.before) links slot link 0 l)

pub head_read : (heads : List ℕ) (bucket head : ℕ) → bucket < length heads → head ≡ get_or heads bucket head → head ≡ get_or heads bucket 0
head_read heads bucket head l e = e ∙ get_or_default heads bucket head 0 l

-- the bucket of a hash that is read
pub in_bucket : (heads : List ℕ) (links : List Link) (slot buckets bucket : ℕ) (link : Link) → slot < length links → link ≡ get_or links slot link → 0 < link.hash → buckets ≡ length heads → bucket ≡ link.hash % buckets → IsIn (length heads) bucket (get_or (hashes_of links) slot 0)
in_bucket heads links slot buckets bucket link l e positive many is =
    let read : link.hash ≡ get_or (hashes_of links) slot 0 = hash_read links slot link l e in
    (subst (λ x. 0 < x) read positive, ap (λ x. x % length heads) (sym read) ∙ sym (is ∙ ap (λ n. link.hash % n) many))

-- ---- the last slot of a bucket

-- over other hashes that are the same before the end
pub last_alike : (old new : List ℕ) (buckets bucket end last : ℕ) → ((k : ℕ) → k < end → get_or new k 0 ≡ get_or old k 0) → IsLast old buckets bucket end last → IsLast new buckets bucket end last
last_alike old new buckets bucket end last same l = record {
  upto = l.upto;
  there = λ h. subst (IsIn buckets bucket) (sym (same (last - 1) (omega (arith, l.upto, h)))) (l.there h);
  none = λ k low high i. l.none k low high (subst (IsIn buckets bucket) (same k high) i);
}

-- one slot more, which isn't in the bucket
pub last_more : (hashes : List ℕ) (buckets bucket end last : ℕ) → (IsIn buckets bucket (get_or hashes end 0) → ⊥) → IsLast hashes buckets bucket end last → IsLast hashes buckets bucket (end + 1) last
last_more hashes buckets bucket end last out l = record {
  upto = omega (arith, l.upto);
  there = l.there;
  none = λ k low high i.
      ⊎_elim (λ (h : k < end). l.none k low h i)
      (λ (h : end ≤ k). let same : k ≡ end = omega arith in out (subst (λ x. IsIn buckets bucket (get_or hashes x 0)) same i))
      (cases_lt k end);
}

-- one slot more, which is
pub last_here : (hashes : List ℕ) (buckets bucket end : ℕ) → IsIn buckets bucket (get_or hashes end 0) → IsLast hashes buckets bucket (end + 1) (end + 1)
last_here hashes buckets bucket end is =
    let same : end ≡ end + 1 - 1 = omega arith in
    record {
      upto = omega arith;
      there = λ h. subst (λ x. IsIn buckets bucket (get_or hashes x 0)) same is;
      none = λ k low high i. absurd (omega arith);
    }

-- the hash at a slot set to 0, which wasn't the last
pub last_without : (hashes : List ℕ) (slot buckets bucket end last : ℕ) → slot < length hashes → (last ≡ slot + 1 → ⊥) → IsLast hashes buckets bucket end last → IsLast (set hashes slot 0) buckets bucket end last
last_without hashes slot buckets bucket end last within other l = record {
  upto = l.upto;
  there = λ h.
      let apart : last - 1 ≡ slot → ⊥ = λ (e : last - 1 ≡ slot). other (omega (arith, h)) in
      subst (IsIn buckets bucket) (sym (get_or-set_other hashes slot (last - 1) 0 0 apart)) (l.there h);
  none = λ k low high i.
      ⊎_elim (λ (e : k ≡ slot).
      let zero_there : get_or (set hashes slot 0) k 0 ≡ 0 = ap (λ x. get_or (set hashes slot 0) x 0) e ∙ get_or-set_same hashes slot 0 0 within in
      absurd (omega (arith, i.0, zero_there)))
      (λ (n : k ≡ slot → ⊥). l.none k low high (subst (IsIn buckets bucket) (get_or-set_other hashes slot k 0 0 n) i))
      (cases_eq k slot);
}

-- the same where it was the last: the last before it is
pub last_back : (hashes : List ℕ) (slot buckets bucket end last : ℕ) → slot < length hashes → IsLast hashes buckets bucket end (slot + 1) → IsLast hashes buckets bucket slot last → IsLast (set hashes slot 0) buckets bucket end last
last_back hashes slot buckets bucket end last within l before = record {
  upto = omega (arith, l.upto, before.upto);
  there = λ h.
      let apart : last - 1 ≡ slot → ⊥ = λ (e : last - 1 ≡ slot). omega (arith, before.upto, h) in
      subst (IsIn buckets bucket) (sym (get_or-set_other hashes slot (last - 1) 0 0 apart)) (before.there h);
  none = λ k low high i.
      ⊎_elim (λ (e : k ≡ slot).
      let zero_there : get_or (set hashes slot 0) k 0 ≡ 0 = ap (λ x. get_or (set hashes slot 0) x 0) e ∙ get_or-set_same hashes slot 0 0 within in
      absurd (omega (arith, i.0, zero_there)))
      (λ (n : k ≡ slot → ⊥).
      let is : IsIn buckets bucket (get_or hashes k 0) = subst (IsIn buckets bucket) (get_or-set_other hashes slot k 0 0 n) i in
      ⊎_elim (λ (h : k < slot). before.none k low h is) (λ (h : slot ≤ k). l.none k (omega (arith, λ (e : k ≡ slot). n e)) high is) (cases_lt k slot))
      (cases_eq k slot);
}

-- ---- chains

-- the last slot before a slot in a bucket
pub last_before_slot : (heads : List ℕ) (links : List Link) (end bucket slot : ℕ) → IsLinkedTo heads links end → slot < end → IsIn (length heads) bucket (get_or (hashes_of links) slot 0) → IsLast (hashes_of links) (length heads) bucket slot (get_or (befores_of links) slot 0)
last_before_slot heads links end bucket slot linked l is =
    subst (λ b. IsLast (hashes_of links) (length heads) b slot (get_or (befores_of links) slot 0)) is.1 (linked.befores slot l is.0)

-- over other links that are the same before the end
pub linked_alike : (heads : List ℕ) (old new : List Link) (end : ℕ) → ((k : ℕ) → k < end → get_or (hashes_of new) k 0 ≡ get_or (hashes_of old) k 0) → ((k : ℕ) → k < end → get_or (befores_of new) k 0 ≡ get_or (befores_of old) k 0) → IsLinkedTo heads old end → IsLinkedTo heads new end
linked_alike heads old new end hashes befores linked = record {
  lasts = λ bucket l. last_alike (hashes_of old) (hashes_of new) (length heads) bucket end (get_or heads bucket 0) hashes (linked.lasts bucket l);
  befores = λ k l h.
      let is : IsIn (length heads) (get_or (hashes_of new) k 0 % length heads) (get_or (hashes_of old) k 0) = (
        subst (λ x. 0 < x) (hashes k l) h,
        ap (λ x. x % length heads) (sym (hashes k l)),
      ) in
      subst (λ x. IsLast (hashes_of new) (length heads) (get_or (hashes_of new) k 0 % length heads) k x) (sym (befores k l))
      (last_alike (hashes_of old) (hashes_of new) (length heads) (get_or (hashes_of new) k 0 % length heads) k (get_or (befores_of old) k 0) (λ j m. hashes j (omega arith))
      (last_before_slot heads old end (get_or (hashes_of new) k 0 % length heads) k linked l is));
}

pub linked_push : (heads : List ℕ) (links : List Link) (link : Link) → IsLinkedTo heads links (length links) → IsLinkedTo heads (links ++ link ∷ []) (length links)
linked_push heads links link linked =
    let hashes : hashes_of (links ++ link ∷ []) ≡ hashes_of links ++ link.hash ∷ [] = map_push (λ (l : Link). l.hash) links link in
    let befores : befores_of (links ++ link ∷ []) ≡ befores_of links ++ link.before ∷ [] = map_push (λ (l : Link). l.before) links link in
    linked_alike heads links (links ++ link ∷ []) (length links)
    (λ k l. ap (λ xs. get_or xs k 0) hashes ∙ get_or_append_left (hashes_of links) (link.hash ∷ []) 0 k (omega (arith, length-map links (λ (l : Link). l.hash))))
    (λ k l. ap (λ xs. get_or xs k 0) befores ∙ get_or_append_left (befores_of links) (link.before ∷ []) 0 k (omega (arith, length-map links (λ (l : Link). l.before))))
    linked

-- a slot with no hash
pub linked_empty : (heads : List ℕ) (links : List Link) (slot : ℕ) → get_or (hashes_of links) slot 0 ≡ 0 → IsLinkedTo heads links slot → IsLinkedTo heads links (slot + 1)
linked_empty heads links slot none linked = record {
  lasts = λ bucket l. last_more (hashes_of links) (length heads) bucket slot (get_or heads bucket 0) (λ i. absurd (omega (arith, i.0))) (linked.lasts bucket l);
  befores = λ k l h.
      ⊎_elim (λ (low : k < slot). linked.befores k low h)
      (λ (high : slot ≤ k). let same : k ≡ slot = omega arith in let zero_there : get_or (hashes_of links) k 0 ≡ 0 = ap (λ x. get_or (hashes_of links) x 0) same ∙ none in absurd (omega (arith, h, zero_there)))
      (cases_lt k slot);
}

pub same_hashes : (links : List Link) (slot hash : ℕ) → hash ≡ get_or (hashes_of links) slot 0 → (link : Link) → link.hash ≡ hash → hashes_of (set links slot link) ≡ hashes_of links
same_hashes links slot hash hash_is link e =
    map-set (λ (l : Link). l.hash) links slot link ∙ ap (set (hashes_of links) slot) (e ∙ hash_is) ∙ set-get_or (hashes_of links) slot 0

-- a slot with a hash: it is the last of its bucket
module _ (heads : List ℕ) (links : List Link) (slot hash bucket before : ℕ) (within : slot < length links) (bucket_within : bucket < length heads) (positive : 0 < hash) (in_bucket : hash % length heads ≡ bucket) (hash_is : hash ≡ get_or (hashes_of links) slot 0) (before_is : before ≡ get_or heads bucket 0) (linked : IsLinkedTo heads links slot) where
  before_back : get_or heads bucket 0 ≡ get_or (set (befores_of links) slot before) slot 0
  before_back = sym before_is ∙ sym (get_or-set_same (befores_of links) slot before 0 (omega (arith, length-map links (λ (l : Link). l.before))))

  pub linked_put : (link : Link) → link.hash ≡ hash → link.before ≡ before → IsLinkedTo (set heads bucket (slot + 1)) (set links slot link) (slot + 1)
  linked_put link hash_e before_e =
      let hashes : hashes_of (set links slot link) ≡ hashes_of links = same_hashes links slot hash hash_is link hash_e in
      let befores : befores_of (set links slot link) ≡ set (befores_of links) slot before =
      map-set (λ (l : Link). l.before) links slot link ∙ ap (set (befores_of links) slot) before_e in
      let many : length (set heads bucket (slot + 1)) ≡ length heads = length-set heads bucket (slot + 1) in
      let is_in : IsIn (length heads) bucket (get_or (hashes_of links) slot 0) = (subst (λ x. 0 < x) hash_is positive, ap (λ x. x % length heads) (sym hash_is) ∙ in_bucket) in
      let new_heads : (b : ℕ) → b < length heads → IsLast (hashes_of links) (length heads) b (slot + 1) (get_or (set heads bucket (slot + 1)) b 0) = λ b l.
      ⊎_elim (λ (e : b ≡ bucket).
      subst (λ x. IsLast (hashes_of links) (length heads) x (slot + 1) (get_or (set heads bucket (slot + 1)) x 0)) (sym e)
      (subst (IsLast (hashes_of links) (length heads) bucket (slot + 1)) (sym (get_or-set_same heads bucket (slot + 1) 0 bucket_within)) (last_here (hashes_of links) (length heads) bucket slot is_in)))
      (λ (n : b ≡ bucket → ⊥).
      subst (IsLast (hashes_of links) (length heads) b (slot + 1)) (sym (get_or-set_other heads bucket b (slot + 1) 0 n))
      (last_more (hashes_of links) (length heads) b slot (get_or heads b 0) (λ i. n (sym i.1 ∙ is_in.1)) (linked.lasts b l)))
      (cases_eq b bucket) in
      let new_befores : (k : ℕ) → k < slot + 1 → 0 < get_or (hashes_of links) k 0 → IsLast (hashes_of links) (length heads) (get_or (hashes_of links) k 0 % length heads) k (get_or (set (befores_of links) slot before) k 0) = λ k l h.
      ⊎_elim (λ (e : k ≡ slot).
      subst (λ x. IsLast (hashes_of links) (length heads) (get_or (hashes_of links) x 0 % length heads) x (get_or (set (befores_of links) slot before) x 0)) (sym e)
      (subst (IsLast (hashes_of links) (length heads) (get_or (hashes_of links) slot 0 % length heads) slot) before_back
      (subst (λ b. IsLast (hashes_of links) (length heads) b slot (get_or heads bucket 0)) (sym is_in.1) (linked.lasts bucket bucket_within))))
      (λ (n : k ≡ slot → ⊥).
      subst (IsLast (hashes_of links) (length heads) (get_or (hashes_of links) k 0 % length heads) k) (sym (get_or-set_other (befores_of links) slot k before 0 n))
      (linked.befores k (omega (arith, λ (e : k ≡ slot). n e)) h))
      (cases_eq k slot) in
      record {
        lasts = λ b l.
            subst (λ hs. IsLast hs (length (set heads bucket (slot + 1))) b (slot + 1) (get_or (set heads bucket (slot + 1)) b 0)) (sym hashes)
            (subst (λ m. IsLast (hashes_of links) m b (slot + 1) (get_or (set heads bucket (slot + 1)) b 0)) (sym many) (new_heads b (subst (λ m. b < m) many l)));
        befores = λ k l h.
            subst (λ hs. IsLast hs (length (set heads bucket (slot + 1))) (get_or hs k 0 % length (set heads bucket (slot + 1))) k (get_or (befores_of (set links slot link)) k 0)) (sym hashes)
            (subst (λ m. IsLast (hashes_of links) m (get_or (hashes_of links) k 0 % m) k (get_or (befores_of (set links slot link)) k 0)) (sym many)
            (subst (λ bs. IsLast (hashes_of links) (length heads) (get_or (hashes_of links) k 0 % length heads) k (get_or bs k 0)) (sym befores)
            (new_befores k l (subst (λ hs. 0 < get_or hs k 0) hashes h))));
      }

-- ---- what is written

-- a hash set to 0: the slots before stay
pub emptied : (links : List Link) (slot : ℕ) (link : Link) → slot < length links → link ≡ get_or links slot link → (new : Link) → new.hash ≡ 0 → new.before ≡ link.before → (hashes_of (set links slot new) ≡ set (hashes_of links) slot 0) × (befores_of (set links slot new) ≡ befores_of links)
emptied links slot link l e new h b = (
  map-set (λ (k : Link). k.hash) links slot new ∙ ap (set (hashes_of links) slot) h,
  map-set (λ (k : Link). k.before) links slot new ∙ ap (set (befores_of links) slot) (b ∙ before_read links slot link l e) ∙ set-get_or (befores_of links) slot 0,
)

-- a slot before changed: the hashes stay
pub relinked : (links : List Link) (slot before : ℕ) (link : Link) → slot < length links → link ≡ get_or links slot link → (new : Link) → new.hash ≡ link.hash → new.before ≡ before → (hashes_of (set links slot new) ≡ hashes_of links) × (befores_of (set links slot new) ≡ set (befores_of links) slot before)
relinked links slot before link l e new h b = (
  same_hashes links slot link.hash (hash_read links slot link l e) new h,
  map-set (λ (k : Link). k.before) links slot new ∙ ap (set (befores_of links) slot) b,
)

-- ---- a slot taken out

-- what is left of the hashes once a slot has none
module _ (heads : List ℕ) (links : List Link) (slot bucket last before : ℕ) (within : slot < length links) (bucket_within : bucket < length heads) (here : IsIn (length heads) bucket (get_or (hashes_of links) slot 0)) (linked : IsLinked heads links) (last_is : last ≡ get_or heads bucket 0) (before_is : before ≡ get_or (befores_of links) slot 0) where
  hash_within : slot < length (hashes_of links)
  hash_within = omega (arith, length-map links (λ (l : Link). l.hash))

  pub last_of : IsLast (hashes_of links) (length heads) bucket (length links) last
  last_of = subst (IsLast (hashes_of links) (length heads) bucket (length links)) (sym last_is) (linked.all.lasts bucket bucket_within)

  before_of : IsLast (hashes_of links) (length heads) bucket slot before
  before_of = subst (IsLast (hashes_of links) (length heads) bucket slot) (sym before_is) (last_before_slot heads links (length links) bucket slot linked.all within here)

  -- the last of the bucket is the slot itself, or one after it
  pub last_behind : slot + 1 ≤ last
  last_behind =
      ⊎_elim (λ (h : slot < last). omega arith) (λ (h : last ≤ slot). absurd (last_of.none slot h within here)) (cases_lt slot last)

  -- the last of another bucket isn't the slot
  other_last : (b : ℕ) → b < length heads → (b ≡ bucket → ⊥) → get_or heads b 0 ≡ slot + 1 → ⊥
  other_last b l n e =
      let there : IsIn (length heads) b (get_or (hashes_of links) (get_or heads b 0 - 1) 0) = (linked.all.lasts b l).there (omega (arith, e)) in
      let same : get_or heads b 0 - 1 ≡ slot = omega (arith, e) in
      n (sym (subst (λ x. IsIn (length heads) b (get_or (hashes_of links) x 0)) same there).1 ∙ here.1)

  module _ (after : List ℕ) (after_is : after ≡ set (hashes_of links) slot 0) where
    -- where a slot is the last one before two others of the bucket, or before one and the end, these are the same
    stays : (b end l : ℕ) → (l ≡ slot + 1 → ⊥) → IsLast (hashes_of links) (length heads) b end l → IsLast after (length heads) b end l
    stays b end l n is = subst (λ hs. IsLast hs (length heads) b end l) (sym after_is) (last_without (hashes_of links) slot (length heads) b end l hash_within n is)

    backs : (end : ℕ) → IsLast (hashes_of links) (length heads) bucket end (slot + 1) → IsLast after (length heads) bucket end before
    backs end is = subst (λ hs. IsLast hs (length heads) bucket end before) (sym after_is) (last_back (hashes_of links) slot (length heads) bucket end before hash_within is before_of)

    -- a slot that has a hash afterwards had it before
    was : (k : ℕ) → 0 < get_or after k 0 → (k ≡ slot → ⊥) × (get_or after k 0 ≡ get_or (hashes_of links) k 0)
    was k h =
        ⊎_elim (λ (e : k ≡ slot).
        let none : get_or after k 0 ≡ 0 = ap (λ hs. get_or hs k 0) after_is ∙ ap (λ x. get_or (set (hashes_of links) slot 0) x 0) e ∙ get_or-set_same (hashes_of links) slot 0 0 hash_within in
        absurd (omega (arith, h, none)))
        (λ (n : k ≡ slot → ⊥). (n, ap (λ hs. get_or hs k 0) after_is ∙ get_or-set_other (hashes_of links) slot k 0 0 n))
        (cases_eq k slot)

    -- a slot of the bucket whose last one before it is this slot
    behind_in : (k b : ℕ) → k < length links → IsLast (hashes_of links) (length heads) b k (slot + 1) → (b ≡ bucket) × (slot < k)
    behind_in k b l is =
        let same : slot + 1 - 1 ≡ slot = omega arith in
        let there : IsIn (length heads) b (get_or (hashes_of links) slot 0) = subst (λ x. IsIn (length heads) b (get_or (hashes_of links) x 0)) same (is.there (omega arith)) in
        (sym there.1 ∙ here.1, omega (arith, is.upto))

    -- it is the last of the bucket: the last before it is
    pub taken_last : (changed : List Link) → last ≡ slot + 1 → hashes_of changed ≡ after → befores_of changed ≡ befores_of links → IsLinkedTo (set heads bucket before) changed (length links)
    taken_last changed e hashes befores =
        let many : length (set heads bucket before) ≡ length heads = length-set heads bucket before in
        let is : IsLast (hashes_of links) (length heads) bucket (length links) (slot + 1) = subst (IsLast (hashes_of links) (length heads) bucket (length links)) e last_of in
        let lasts' : (b : ℕ) → b < length heads → IsLast after (length heads) b (length links) (get_or (set heads bucket before) b 0) = λ b l.
        ⊎_elim (λ (f : b ≡ bucket).
        subst (λ x. IsLast after (length heads) x (length links) (get_or (set heads bucket before) x 0)) (sym f)
        (subst (IsLast after (length heads) bucket (length links)) (sym (get_or-set_same heads bucket before 0 bucket_within)) (backs (length links) is)))
        (λ (n : b ≡ bucket → ⊥).
        subst (IsLast after (length heads) b (length links)) (sym (get_or-set_other heads bucket b before 0 n))
        (stays b (length links) (get_or heads b 0) (other_last b l n) (linked.all.lasts b l)))
        (cases_eq b bucket) in
        let befores' : (k : ℕ) → k < length links → 0 < get_or after k 0 → IsLast after (length heads) (get_or after k 0 % length heads) k (get_or (befores_of links) k 0) = λ k l h.
        let old : (k ≡ slot → ⊥) × (get_or after k 0 ≡ get_or (hashes_of links) k 0) = was k h in
        let b : ℕ = get_or after k 0 % length heads in
        let own : IsIn (length heads) b (get_or (hashes_of links) k 0) = (subst (λ x. 0 < x) old.1 h, ap (λ x. x % length heads) (sym old.1)) in
        let chained : IsLast (hashes_of links) (length heads) b k (get_or (befores_of links) k 0) = last_before_slot heads links (length links) b k linked.all l own in
        stays b k (get_or (befores_of links) k 0) (λ (f : get_or (befores_of links) k 0 ≡ slot + 1).
        let told : (b ≡ bucket) × (slot < k) = behind_in k b l (subst (IsLast (hashes_of links) (length heads) b k) f chained) in
        is.none k (omega (arith, told.1)) l (subst (λ x. IsIn (length heads) x (get_or (hashes_of links) k 0)) told.0 own)) chained in
        record {
          lasts = λ b l.
              subst (λ hs. IsLast hs (length (set heads bucket before)) b (length links) (get_or (set heads bucket before) b 0)) (sym hashes)
              (subst (λ m. IsLast after m b (length links) (get_or (set heads bucket before) b 0)) (sym many) (lasts' b (subst (λ m. b < m) many l)));
          befores = λ k l h.
              subst (λ hs. IsLast hs (length (set heads bucket before)) (get_or hs k 0 % length (set heads bucket before)) k (get_or (befores_of changed) k 0)) (sym hashes)
              (subst (λ m. IsLast after m (get_or after k 0 % m) k (get_or (befores_of changed) k 0)) (sym many)
              (subst (λ bs. IsLast after (length heads) (get_or after k 0 % length heads) k (get_or bs k 0)) (sym befores)
              (befores' k l (subst (λ hs. 0 < get_or hs k 0) hashes h))));
        }

    -- one after it in the bucket goes back to the last before it
    pub taken_between : (changed : List Link) (behind : ℕ) → behind < length links → (last ≡ slot + 1 → ⊥) → IsIn (length heads) bucket (get_or (hashes_of links) behind 0) → get_or (befores_of links) behind 0 ≡ slot + 1 → hashes_of changed ≡ after → befores_of changed ≡ set (befores_of links) behind before → IsLinkedTo heads changed (length links)
    taken_between changed behind behind_within n there next hashes befores =
        let is : IsLast (hashes_of links) (length heads) bucket behind (slot + 1) =
        subst (IsLast (hashes_of links) (length heads) bucket behind) next (last_before_slot heads links (length links) bucket behind linked.all behind_within there) in
        let many : length (befores_of links) ≡ length links = length-map links (λ (l : Link). l.before) in
        let lasts' : (b : ℕ) → b < length heads → IsLast after (length heads) b (length links) (get_or heads b 0) = λ b l.
        stays b (length links) (get_or heads b 0) (λ (f : get_or heads b 0 ≡ slot + 1).
        ⊎_elim (λ (e : b ≡ bucket). n (last_is ∙ sym (ap (λ x. get_or heads x 0) e) ∙ f)) (λ (m : b ≡ bucket → ⊥). other_last b l m f) (cases_eq b bucket)) (linked.all.lasts b l) in
        let befores' : (k : ℕ) → k < length links → 0 < get_or after k 0 → IsLast after (length heads) (get_or after k 0 % length heads) k (get_or (set (befores_of links) behind before) k 0) = λ k l h.
        let old : (k ≡ slot → ⊥) × (get_or after k 0 ≡ get_or (hashes_of links) k 0) = was k h in
        let b : ℕ = get_or after k 0 % length heads in
        let own : IsIn (length heads) b (get_or (hashes_of links) k 0) = (subst (λ x. 0 < x) old.1 h, ap (λ x. x % length heads) (sym old.1)) in
        let chained : IsLast (hashes_of links) (length heads) b k (get_or (befores_of links) k 0) = last_before_slot heads links (length links) b k linked.all l own in
        ⊎_elim (λ (e : k ≡ behind).
        let in_bucket : b ≡ bucket = ap (λ x. x % length heads) old.1 ∙ ap (λ x. get_or (hashes_of links) x 0 % length heads) e ∙ there.1 in
        subst (λ x. IsLast after (length heads) x k (get_or (set (befores_of links) behind before) k 0)) (sym in_bucket)
        (subst (λ x. IsLast after (length heads) bucket x (get_or (set (befores_of links) behind before) x 0)) (sym e)
        (subst (IsLast after (length heads) bucket behind) (sym (get_or-set_same (befores_of links) behind before 0 (omega (arith, many)))) (backs behind is))))
        (λ (m : k ≡ behind → ⊥).
        subst (IsLast after (length heads) b k) (sym (get_or-set_other (befores_of links) behind k before 0 m))
        (stays b k (get_or (befores_of links) k 0) (λ (f : get_or (befores_of links) k 0 ≡ slot + 1).
        let last_k : IsLast (hashes_of links) (length heads) b k (slot + 1) = subst (IsLast (hashes_of links) (length heads) b k) f chained in
        let told : (b ≡ bucket) × (slot < k) = behind_in k b l last_k in
        ⊎_elim (λ (h : k < behind). is.none k (omega (arith, told.1)) h (subst (λ x. IsIn (length heads) x (get_or (hashes_of links) k 0)) told.0 own))
        (λ (h : behind ≤ k). last_k.none behind (omega (arith, is.upto)) (omega (arith, λ (e : k ≡ behind). m e)) (subst (λ x. IsIn (length heads) x (get_or (hashes_of links) behind 0)) (sym told.0) there))
        (cases_lt k behind)) chained))
        (cases_eq k behind) in
        record {
          lasts = λ b l. subst (λ hs. IsLast hs (length heads) b (length links) (get_or heads b 0)) (sym hashes) (lasts' b l);
          befores = λ k l h.
              subst (λ hs. IsLast hs (length heads) (get_or hs k 0 % length heads) k (get_or (befores_of changed) k 0)) (sym hashes)
              (subst (λ bs. IsLast after (length heads) (get_or after k 0 % length heads) k (get_or bs k 0)) (sym befores)
              (befores' k l (subst (λ hs. 0 < get_or hs k 0) hashes h)));
        }

  -- the links written: the slot's head goes back
  pub linked_last : (link : Link) → link ≡ get_or links slot link → last ≡ slot + 1 → (new : Link) → new.hash ≡ 0 → new.before ≡ link.before → IsLinked (set heads bucket before) (set links slot new) × (hashes_of (set links slot new) ≡ set (hashes_of links) slot 0)
  linked_last link e l new h b =
      let changed : List Link = set links slot new in
      let written : (hashes_of changed ≡ set (hashes_of links) slot 0) × (befores_of changed ≡ befores_of links) = emptied links slot link within e new h b in
      let long : length changed ≡ length links = length-set links slot new in (
        record {
          all = subst (IsLinkedTo (set heads bucket before) changed) (sym long) (taken_last (hashes_of changed) written.0 changed l refl written.1);
          room = omega (arith, long, length-set heads bucket before, linked.room);
        },
        written.0,
      )

  -- the links written: the slot after goes back
  module _ (behind : ℕ) (behind_within : behind < length links) (there : IsIn (length heads) bucket (get_or (hashes_of links) behind 0)) (next : get_or (befores_of links) behind 0 ≡ slot + 1) (other : last ≡ slot + 1 → ⊥) where
    pub linked_between : (old moved own new : Link) → old ≡ get_or links behind old → moved.hash ≡ old.hash → moved.before ≡ before → own ≡ get_or (set links behind moved) slot own → new.hash ≡ 0 → new.before ≡ own.before → IsLinked heads (set (set links behind moved) slot new) × (hashes_of (set (set links behind moved) slot new) ≡ set (hashes_of links) slot 0)
    linked_between old moved own new e mh mb f nh nb =
        let middle : List Link = set links behind moved in
        let changed : List Link = set middle slot new in
        let first : (hashes_of middle ≡ hashes_of links) × (befores_of middle ≡ set (befores_of links) behind before) = relinked links behind before old behind_within e moved mh mb in
        let half : length middle ≡ length links = length-set links behind moved in
        let second : (hashes_of changed ≡ set (hashes_of middle) slot 0) × (befores_of changed ≡ befores_of middle) = emptied middle slot own (omega (arith, half, within)) f new nh nb in
        let hashes : hashes_of changed ≡ set (hashes_of links) slot 0 = second.0 ∙ ap (λ hs. set hs slot 0) first.0 in
        let long : length changed ≡ length links = length-set middle slot new ∙ half in (
          record {
            all = subst (IsLinkedTo heads changed) (sym long) (taken_between (hashes_of changed) hashes changed behind behind_within other there next refl (second.1 ∙ first.1));
            room = omega (arith, long, linked.room);
          },
          hashes,
        )

-- ---- no hash

pub filtered : (links : List Link) → hashes_of (filter (λ link. is_hash link.hash) links) ≡ filter is_hash (hashes_of links)
filtered [] = refl
filtered (l ∷ ls) =
    elim (is_hash l.hash) as (λ b. hashes_of (cond b (l ∷ filter (λ (k : Link). is_hash k.hash) ls) (filter (λ (k : Link). is_hash k.hash) ls)) ≡ cond b (l.hash ∷ filter is_hash (hashes_of ls)) (filter is_hash (hashes_of ls)))
    [ true ↦ ap (λ hs. l.hash ∷ hs) (filtered ls) | false ↦ filtered ls ]
