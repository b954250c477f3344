use Rattle.std.proofs.Common.{◌≡◌, ℕ, ◌+◌, ◌-◌, ◌<◌, List, length, get_or, set, refl, sym, ap, ◌∙◌, subst, arith}
use Rattle.std.proofs.lemmas.List.{set-get_or}
use Rattle.collate_lists.specs.Chains.{befores_of, hashes_of, IsIn}
use Rattle.collate_lists.specs.declared.chains.Link.{Link}
use Rattle.collate_lists.proofs.ChainLemmas.{before_read, hash_read, head_read, in_bucket, last_behind, last_of, linked_between, linked_last}
use Rattle.collate_lists.proofs.chains.take_out.Goals as goal

pub returns-then-hash-eq0-clause-hashes : goal.returns-then-hash-eq0-clause-hashes
returns-then-hash-eq0-clause-hashes c =
    let links : List Link = c.args.links.now.items in
    let read : c.index.result.now.hash ≡ get_or (hashes_of links) c.args.slot 0 = hash_read links c.args.slot c.index.result.now c.requires.slot c.index.ensures in
    sym (ap (set (hashes_of links) c.args.slot) (sym c.if-hash-eq0.true ∙ read) ∙ set-get_or (hashes_of links) c.args.slot 0)

pub slot_behind-behind-requires-clause-from : goal.slot_behind-behind-requires-clause-from
slot_behind-behind-requires-clause-from c =
    let heads : List ℕ = c.args.heads.now.items in
    let links : List Link = c.args.links.now.items in
    let link : Link = c.index.result.now in
    let bucket : ℕ = c.bucket_of-bucket.result in
    let last : ℕ = c.index-last.result.now in
    let many : c.len.result ≡ length heads = c.len.ensures ∙ c.args.heads.now.ok.0 in
    let within : bucket < length heads = omega (arith, c.bucket_of-bucket.ensures.within, many) in
    let here : IsIn (length heads) bucket (get_or (hashes_of links) c.args.slot 0) =
    in_bucket heads links c.args.slot c.len.result bucket link c.requires.slot c.index.ensures (omega (arith, c.if-hash-eq0.false)) many c.bucket_of-bucket.ensures.bucket in
    let last_is : last ≡ get_or heads bucket 0 = head_read heads bucket last within c.index-last.ensures in
    let before_is : link.before ≡ get_or (befores_of links) c.args.slot 0 = before_read links c.args.slot link c.requires.slot c.index.ensures in
    omega (arith, last_behind heads links c.args.slot bucket last link.before c.requires.slot within here c.requires.linked last_is before_is, c.if-last-slot.false)

pub slot_behind-behind-requires-clause-upto : goal.slot_behind-behind-requires-clause-upto
slot_behind-behind-requires-clause-upto c =
    let heads : List ℕ = c.args.heads.now.items in
    let links : List Link = c.args.links.now.items in
    let link : Link = c.index.result.now in
    let bucket : ℕ = c.bucket_of-bucket.result in
    let last : ℕ = c.index-last.result.now in
    let many : c.len.result ≡ length heads = c.len.ensures ∙ c.args.heads.now.ok.0 in
    let within : bucket < length heads = omega (arith, c.bucket_of-bucket.ensures.within, many) in
    let here : IsIn (length heads) bucket (get_or (hashes_of links) c.args.slot 0) =
    in_bucket heads links c.args.slot c.len.result bucket link c.requires.slot c.index.ensures (omega (arith, c.if-hash-eq0.false)) many c.bucket_of-bucket.ensures.bucket in
    let last_is : last ≡ get_or heads bucket 0 = head_read heads bucket last within c.index-last.ensures in
    let before_is : link.before ≡ get_or (befores_of links) c.args.slot 0 = before_read links c.args.slot link c.requires.slot c.index.ensures in
    omega (arith, (last_of heads links c.args.slot bucket last link.before c.requires.slot within here c.requires.linked last_is before_is).upto, ap length c.as_slice-else-last-slot.ensures.value)

pub slot_behind-behind-requires-clause-first : goal.slot_behind-behind-requires-clause-first
slot_behind-behind-requires-clause-first c =
    let heads : List ℕ = c.args.heads.now.items in
    let links : List Link = c.args.links.now.items in
    let link : Link = c.index.result.now in
    let bucket : ℕ = c.bucket_of-bucket.result in
    let last : ℕ = c.index-last.result.now in
    let many : c.len.result ≡ length heads = c.len.ensures ∙ c.args.heads.now.ok.0 in
    let within : bucket < length heads = omega (arith, c.bucket_of-bucket.ensures.within, many) in
    let here : IsIn (length heads) bucket (get_or (hashes_of links) c.args.slot 0) =
    in_bucket heads links c.args.slot c.len.result bucket link c.requires.slot c.index.ensures (omega (arith, c.if-hash-eq0.false)) many c.bucket_of-bucket.ensures.bucket in
    let last_is : last ≡ get_or heads bucket 0 = head_read heads bucket last within c.index-last.ensures in
    let before_is : link.before ≡ get_or (befores_of links) c.args.slot 0 = before_read links c.args.slot link c.requires.slot c.index.ensures in
    subst (λ (hs : List ℕ). IsIn (length hs) bucket (get_or (hashes_of c.as_slice-else-last-slot.result.now) (last - 1) 0)) (sym c.as_slice.ensures.value)
    (subst (λ (ls : List Link). IsIn (length heads) bucket (get_or (hashes_of ls) (last - 1) 0)) (sym c.as_slice-else-last-slot.ensures.value)
    ((last_of heads links c.args.slot bucket last link.before c.requires.slot within here c.requires.linked last_is before_is).there (omega (arith, last_behind heads links c.args.slot bucket last link.before c.requires.slot within here c.requires.linked last_is before_is))))

pub returns-then-last-slot-clause-linked : goal.returns-then-last-slot-clause-linked
returns-then-last-slot-clause-linked c =
    let heads : List ℕ = c.args.heads.now.items in
    let links : List Link = c.args.links.now.items in
    let link : Link = c.index.result.now in
    let bucket : ℕ = c.bucket_of-bucket.result in
    let last : ℕ = c.index-last.result.now in
    let many : c.len.result ≡ length heads = c.len.ensures ∙ c.args.heads.now.ok.0 in
    let within : bucket < length heads = omega (arith, c.bucket_of-bucket.ensures.within, many) in
    let here : IsIn (length heads) bucket (get_or (hashes_of links) c.args.slot 0) =
    in_bucket heads links c.args.slot c.len.result bucket link c.requires.slot c.index.ensures (omega (arith, c.if-hash-eq0.false)) many c.bucket_of-bucket.ensures.bucket in
    let last_is : last ≡ get_or heads bucket 0 = head_read heads bucket last within c.index-last.ensures in
    let before_is : link.before ≡ get_or (befores_of links) c.args.slot 0 = before_read links c.args.slot link c.requires.slot c.index.ensures in
    let own : Link = c.index_mut-then-last-slot.result.now in
    (linked_last heads links c.args.slot bucket last link.before c.requires.slot within here c.requires.linked last_is before_is own c.index_mut-then-last-slot.ensures.value c.if-last-slot.true (record { hash = 0; before = own.before }) refl refl).0

pub returns-then-last-slot-clause-hashes : goal.returns-then-last-slot-clause-hashes
returns-then-last-slot-clause-hashes c =
    let heads : List ℕ = c.args.heads.now.items in
    let links : List Link = c.args.links.now.items in
    let link : Link = c.index.result.now in
    let bucket : ℕ = c.bucket_of-bucket.result in
    let last : ℕ = c.index-last.result.now in
    let many : c.len.result ≡ length heads = c.len.ensures ∙ c.args.heads.now.ok.0 in
    let within : bucket < length heads = omega (arith, c.bucket_of-bucket.ensures.within, many) in
    let here : IsIn (length heads) bucket (get_or (hashes_of links) c.args.slot 0) =
    in_bucket heads links c.args.slot c.len.result bucket link c.requires.slot c.index.ensures (omega (arith, c.if-hash-eq0.false)) many c.bucket_of-bucket.ensures.bucket in
    let last_is : last ≡ get_or heads bucket 0 = head_read heads bucket last within c.index-last.ensures in
    let before_is : link.before ≡ get_or (befores_of links) c.args.slot 0 = before_read links c.args.slot link c.requires.slot c.index.ensures in
    let own : Link = c.index_mut-then-last-slot.result.now in
    (linked_last heads links c.args.slot bucket last link.before c.requires.slot within here c.requires.linked last_is before_is own c.index_mut-then-last-slot.ensures.value c.if-last-slot.true (record { hash = 0; before = own.before }) refl refl).1

pub returns-else-last-slot-clause-linked : goal.returns-else-last-slot-clause-linked
returns-else-last-slot-clause-linked c =
    let heads : List ℕ = c.args.heads.now.items in
    let links : List Link = c.args.links.now.items in
    let link : Link = c.index.result.now in
    let bucket : ℕ = c.bucket_of-bucket.result in
    let last : ℕ = c.index-last.result.now in
    let many : c.len.result ≡ length heads = c.len.ensures ∙ c.args.heads.now.ok.0 in
    let within : bucket < length heads = omega (arith, c.bucket_of-bucket.ensures.within, many) in
    let here : IsIn (length heads) bucket (get_or (hashes_of links) c.args.slot 0) =
    in_bucket heads links c.args.slot c.len.result bucket link c.requires.slot c.index.ensures (omega (arith, c.if-hash-eq0.false)) many c.bucket_of-bucket.ensures.bucket in
    let last_is : last ≡ get_or heads bucket 0 = head_read heads bucket last within c.index-last.ensures in
    let before_is : link.before ≡ get_or (befores_of links) c.args.slot 0 = before_read links c.args.slot link c.requires.slot c.index.ensures in
    let behind : ℕ = c.slot_behind-behind.result in
    let behind_within : behind < length links = omega (arith, c.slot_behind-behind.ensures.within, ap length c.as_slice-else-last-slot.ensures.value) in
    let there : IsIn (length heads) bucket (get_or (hashes_of links) behind 0) =
    subst (λ (hs : List ℕ). IsIn (length hs) bucket (get_or (hashes_of links) behind 0)) c.as_slice.ensures.value
    (subst (λ (ls : List Link). IsIn (length c.as_slice.result.now) bucket (get_or (hashes_of ls) behind 0)) c.as_slice-else-last-slot.ensures.value c.slot_behind-behind.ensures.bucket) in
    let next : get_or (befores_of links) behind 0 ≡ c.args.slot + 1 =
    subst (λ (ls : List Link). get_or (befores_of ls) behind 0 ≡ c.args.slot + 1) c.as_slice-else-last-slot.ensures.value c.slot_behind-behind.ensures.next in
    let old : Link = c.index_mut-else-last-slot.result.now in
    let own : Link = c.index_mut-else-last-slot-2.result.now in
    (linked_between heads links c.args.slot bucket last link.before c.requires.slot within here c.requires.linked last_is before_is behind behind_within there next c.if-last-slot.false
    old (record { hash = old.hash; before = link.before }) own (record { hash = 0; before = own.before }) c.index_mut-else-last-slot.ensures.value refl refl c.index_mut-else-last-slot-2.ensures.value refl refl).0

pub returns-else-last-slot-clause-hashes : goal.returns-else-last-slot-clause-hashes
returns-else-last-slot-clause-hashes c =
    let heads : List ℕ = c.args.heads.now.items in
    let links : List Link = c.args.links.now.items in
    let link : Link = c.index.result.now in
    let bucket : ℕ = c.bucket_of-bucket.result in
    let last : ℕ = c.index-last.result.now in
    let many : c.len.result ≡ length heads = c.len.ensures ∙ c.args.heads.now.ok.0 in
    let within : bucket < length heads = omega (arith, c.bucket_of-bucket.ensures.within, many) in
    let here : IsIn (length heads) bucket (get_or (hashes_of links) c.args.slot 0) =
    in_bucket heads links c.args.slot c.len.result bucket link c.requires.slot c.index.ensures (omega (arith, c.if-hash-eq0.false)) many c.bucket_of-bucket.ensures.bucket in
    let last_is : last ≡ get_or heads bucket 0 = head_read heads bucket last within c.index-last.ensures in
    let before_is : link.before ≡ get_or (befores_of links) c.args.slot 0 = before_read links c.args.slot link c.requires.slot c.index.ensures in
    let behind : ℕ = c.slot_behind-behind.result in
    let behind_within : behind < length links = omega (arith, c.slot_behind-behind.ensures.within, ap length c.as_slice-else-last-slot.ensures.value) in
    let there : IsIn (length heads) bucket (get_or (hashes_of links) behind 0) =
    subst (λ (hs : List ℕ). IsIn (length hs) bucket (get_or (hashes_of links) behind 0)) c.as_slice.ensures.value
    (subst (λ (ls : List Link). IsIn (length c.as_slice.result.now) bucket (get_or (hashes_of ls) behind 0)) c.as_slice-else-last-slot.ensures.value c.slot_behind-behind.ensures.bucket) in
    let next : get_or (befores_of links) behind 0 ≡ c.args.slot + 1 =
    subst (λ (ls : List Link). get_or (befores_of ls) behind 0 ≡ c.args.slot + 1) c.as_slice-else-last-slot.ensures.value c.slot_behind-behind.ensures.next in
    let old : Link = c.index_mut-else-last-slot.result.now in
    let own : Link = c.index_mut-else-last-slot-2.result.now in
    (linked_between heads links c.args.slot bucket last link.before c.requires.slot within here c.requires.linked last_is before_is behind behind_within there next c.if-last-slot.false
    old (record { hash = old.hash; before = link.before }) own (record { hash = 0; before = own.before }) c.index_mut-else-last-slot.ensures.value refl refl c.index_mut-else-last-slot-2.ensures.value refl refl).1
