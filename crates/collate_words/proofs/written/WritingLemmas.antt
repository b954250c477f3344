-- Lists that grow step by step, and words that are written one after another.
use Rattle.std.proofs.Common.{◌≡◌, ◌≢◌, ℕ, suc, zero, ◌+◌, ◌==◌, ◌/◌, ◌%◌, ◌^◌, ◌<◌, ◌≤◌, Bool, true, false, List, [], ◌∷◌, ◌++◌, length, map, take, get_or, drop, Option, Some, None, refl, ap, sym, subst, ◌∙◌, arith, append_assoc, length-append}
use Rattle.std.specs.Prelude.{All, IfSome, flat_map, slice_index}
use Rattle.std.specs.Option.{option_copied}
use Rattle.std.specs.List.{AllZip}
use Rattle.std.proofs.lemmas.Bool.{eqb-true, true≢false}
use Rattle.std.proofs.lemmas.List.{drop_at, get_or-append-add, get_or-map, length-map, length_push, map_more, map_push, take-map}
use Rattle.std.proofs.lemmas.List.Elements.{All-push}
use Rattle.std.proofs.lemmas.List.Sums.{sum_by-take-le, sum_by_push}
use Rattle.icu_char16trie.specs.Cursors.{units_of}
use Rattle.icu_collator_types.specs.declared.elements.Element.{Element}
use Rattle.icu_collator_core.specs.Pools.{Pools, index_of, trie_of}
use Rattle.collate_words.specs.declared.contexts.ContextKey.{ContextKey}
use Rattle.collate_words.specs.declared.entry.Beside.{Beside}
use Rattle.collate_words.specs.declared.entry.Entry.{Entry}
use Rattle.collate_words.specs.declared.entry.SuffixFlags.{SuffixFlags}
use Rattle.collate_words.specs.ContextKeys.{AreKeysOf, FitsContext, HasFields, HasKeys, IsContext, IsKeyOf, key_text, pair_of}
use Rattle.collate_words.specs.Entries.{said_beside, saying_of}
use Rattle.collate_words.specs.Fits.{AreBeside, HasRoom, IsBeside, IsDigitAlone}
use Rattle.collate_words.specs.Growth.{Grows, GrowsFor}
use Rattle.collate_words.specs.OwnWords.{IsOwnWord}
use Rattle.collate_words.specs.PartSayings.{saying_before, saying_behind}
use Rattle.collate_words.specs.Sayings.{SaidBeside, Saying, element_count, element_sum, own_count, own_room, text_count}
use Rattle.collate_words.specs.Written.{SaysOf}
use Rattle.collate_words.proofs.growth.OwnGrowthLemmas.{IsOwnWord-larger}
use Rattle.collate_words.proofs.written.WrittenKeyLemmas.{key_short, key_some, zip_weaker}
use Rattle.collate_words.proofs.written.SameContextLemmas.{AreKeptLonger}
use Rattle.collate_words.proofs.written.SayingGrowthLemmas.{says_longer}
use Rattle.collate_words.proofs.written.SayingLemmas.{contraction_says, own_says, prefix_says}

-- ---- Growth

pub grows_for_along : (m n all : ℕ) (pools larger largest : Pools) → GrowsFor m 0 pools larger
    → GrowsFor n 0 larger largest → m + n ≡ all → GrowsFor all 0 pools largest
grows_for_along m n all pools larger largest first second is =
    let a = first.ces in
    let b = second.ces in
    let c = first.ce32s in
    let d = second.ce32s in
    let e = first.contexts in
    let f = second.contexts in
    record { ces = omega (arith, a, b, is); ce32s = omega (arith, c, d, is); contexts = omega (arith, e, f) }

-- the room that is left for the elements of one beside a character
pub room_beside : (all texts done more : ℕ) (pools larger : Pools) → HasRoom pools all texts → GrowsFor done 0 pools larger
    → done + more ≤ all → HasRoom larger more 0
room_beside all texts done more pools larger room grown within =
    let a = room.ces in
    let b = grown.ces in
    let c = room.ce32s in
    let d = grown.ce32s in
    let e = room.contexts in
    let f = grown.contexts in
    record {
      ces = omega (arith, a, b, within);
      ce32s = omega (arith, c, d, within);
      contexts = omega (arith, e, f);
    }

module _ (besides : List Beside) (index : ℕ) (d : Beside) (inside : index < length besides) where
  -- the elements of what stands beside a character, one further
  pub elements_more : element_sum (map said_beside (take index besides)) + length (get_or besides index d).elements.now
      ≡ element_sum (map said_beside (take (index + 1) besides))
  elements_more =
      let more = ap element_sum (map_more said_beside besides index d inside)
      ∙ sum_by_push (λ (said : SaidBeside). length said.elements) (map said_beside (take index besides))
      (said_beside (get_or besides index d)) in
      omega (arith, more)

  pub elements_within : element_sum (map said_beside (take index besides)) + length (get_or besides index d).elements.now
      ≤ element_sum (map said_beside besides)
  elements_within =
      let more = elements_more in
      let part = sum_by-take-le (λ (said : SaidBeside). length said.elements) (map said_beside besides) (index + 1) in
      let same = ap element_sum (take-map said_beside (index + 1) besides) in
      omega (arith, more, part, same)

  -- after one more of them the lists have grown for no more than all
  pub grown_within : (pools larger largest : Pools) → GrowsFor (element_sum (map said_beside (take index besides))) 0 pools larger
      → GrowsFor (length (get_or besides index d).elements.now) 0 larger largest
      → GrowsFor (element_sum (map said_beside besides)) 0 pools largest
  grown_within pools larger largest first second =
      let a = first.ces in
      let b = second.ces in
      let c = first.ce32s in
      let e = second.ce32s in
      let f = first.contexts in
      let g = second.contexts in
      let few = elements_within in
      record { ces = omega (arith, a, b, few); ce32s = omega (arith, c, e, few); contexts = omega (arith, f, g) }

-- ---- Keys

zip_push : {A B : Type 0} (R : A → B → Type 0) (xs : List A) (ys : List B) (x : A) (y : B) → AllZip R xs ys → R x y
    → AllZip R (xs ++ x ∷ []) (ys ++ y ∷ [])
zip_push R [] [] x y all is = (is, tt)
zip_push R [] (z ∷ ys) x y all is = absurd all
zip_push R (z ∷ xs) [] x y all is = absurd all
zip_push R (z ∷ xs) (w ∷ ys) x y all is = (all.0, zip_push R xs ys x y all.1 is)

-- keys stay those of what stands beside a character
pub keys_longer : (pools larger : Pools) (backward : Bool) → Grows pools larger
    → (saids : List SaidBeside) (keys : List (List ℕ × ℕ))
    → AreKeysOf pools backward saids keys → AreKeysOf larger backward saids keys
keys_longer pools larger backward grows saids keys are =
    zip_weaker (IsKeyOf pools backward) (IsKeyOf larger backward)
    (λ said key is. record {
      units = is.units;
      word = IsOwnWord-larger pools larger grows key.1
          (Some said.elements) None is.word;
    }) saids keys are

pub keys_more : (pools larger : Pools) (backward : Bool) → Grows pools larger
    → (saids : List SaidBeside) (keys : List (List ℕ × ℕ))
    (said : SaidBeside) (key : List ℕ × ℕ) → AreKeysOf pools backward saids keys → IsKeyOf larger backward said key
    → AreKeysOf larger backward (saids ++ said ∷ []) (keys ++ key ∷ [])
keys_more pools larger backward grows saids keys said key are is =
    zip_push (IsKeyOf larger backward) saids keys said key (keys_longer pools larger backward grows saids keys are) is

-- what is true of what stands beside a character, by its index
pub beside_at : (most : ℕ) (besides : List Beside) (index : ℕ) (d : Beside) → index < length besides
    → All (IsBeside most) (map said_beside besides)
    → IsBeside most (said_beside (get_or besides index d))
beside_at most besides index d inside all =
    let mapped = length-map besides said_beside in
    subst (IsBeside most) (get_or-map said_beside besides index d (said_beside d) inside)
    (all index (said_beside d) (omega (arith, inside, mapped)))

pub key_fits : (backward : Bool) (said : SaidBeside) (key : ContextKey) → IsBeside 7 said
    → key.units.items ≡ flat_map units_of (key_text backward said.characters) → key.word < 2 ^ 32 → FitsContext key
key_fits backward said key is units word =
    let bound = key_short backward said.characters is.scalars in
    let few = is.short in
    let same = ap length units in
    let some = key_some backward said.characters is.scalars is.some in
    record { some = omega (arith, some, same); short = omega (arith, bound, few, same); word = word }

-- an entry of a list that says nothing, for what stands past the end
abbrev pub no_beside : Beside
no_beside = record {
  characters = record { ref_ptr = (0, 0); now = [] };
  elements = record {
    ref_ptr =
        (0, 0);
    now = [];
  };
}

pub pushed_count : (before after : List ContextKey) (key : ContextKey) (count : ℕ) → after ≡ before ++ key ∷ []
    → length before ≡ count
    → length after ≡ count + 1
pushed_count before after key count is counted = ap length is ∙ length_push before key ∙ ap (λ (n : ℕ). n + 1) counted

pub pushed_fit : (before after : List ContextKey) (key : ContextKey) → after ≡ before ++ key ∷ []
    → All FitsContext before → FitsContext key
    → All FitsContext after
pushed_fit before after key is fit one = subst (All FitsContext) (sym is) (All-push FitsContext before key fit one)

pub pushed_keys : (pools larger : Pools) (backward : Bool) → Grows pools larger
    → (besides : List Beside) (index : ℕ) (d : Beside)
    → index < length besides → (before after : List ContextKey) (key : ContextKey) → after ≡ before ++ key ∷ []
    → AreKeysOf pools backward (map said_beside (take index besides)) (map pair_of before)
    → IsKeyOf larger backward (said_beside (get_or besides index d)) (pair_of key)
    → AreKeysOf larger backward (map said_beside (take (index + 1) besides)) (map pair_of after)
pushed_keys pools larger backward grows besides index d inside before after key is are one =
    let pushed : map pair_of after ≡ map pair_of before ++ pair_of key ∷ [] = ap (map pair_of) is
    ∙ map_push pair_of before key in
    subst (λ saids. AreKeysOf larger backward saids (map pair_of after))
    (sym (map_more said_beside besides index d inside))
    (subst (λ keys. AreKeysOf larger backward (map said_beside (take index besides) ++ said_beside
    (get_or besides index d) ∷ []) keys) (sym pushed)
    (keys_more pools larger backward grows (map said_beside (take index besides)) (map pair_of before)
    (said_beside (get_or besides index d)) (pair_of key) are one))

-- ---- A context at the end

pub context_appended : (contexts longer : List ℕ) (index default : ℕ) (units : List ℕ) (keys : List (List ℕ × ℕ))
    → index ≡ length contexts
    → longer ≡ contexts ++ (default / 2 ^ 16 ∷ default % 2 ^ 16 ∷ units) → HasKeys units keys
    → IsContext longer index default keys
context_appended contexts longer index default units keys at_end is has =
    let written = default / 2 ^ 16 ∷ default % 2 ^ 16 ∷ units in
    let some = has.some in
    let both = length-append contexts written in
    let count = ap length is in
    let first : slice_index longer index ≡ default / 2 ^ 16 =
    ap (λ (xs : List ℕ). slice_index xs index) is ∙ ap (λ (n : ℕ). slice_index (contexts ++ written) n)
    (at_end ∙ (omega arith))
    ∙ get_or-append-add contexts written 0 0 in
    let second : slice_index longer (index + 1) ≡ default % 2 ^ 16 =
    ap (λ (xs : List ℕ). slice_index xs (index + 1)) is ∙ ap (λ (n : ℕ). slice_index (contexts ++ written)
    (n + 1)) at_end
    ∙ get_or-append-add contexts written 1 0 in
    let split : longer ≡ (contexts ++ (default / 2 ^ 16 ∷ default % 2 ^ 16 ∷ [])) ++ units =
    is ∙ sym (append_assoc contexts (default / 2 ^ 16 ∷ default % 2 ^ 16 ∷ []) units) in
    let front = length-append contexts (default / 2 ^ 16 ∷ default % 2 ^ 16 ∷ []) in
    let trie : trie_of longer index ≡ units =
    ap (drop (index + 2)) split ∙ drop_at (contexts ++ (default / 2 ^ 16 ∷ default % 2 ^ 16 ∷ [])) units (index + 2)
    (omega (arith, front, at_end)) in
    record {
      inside = omega (arith, some, both, count, at_end);
      default_is = omega (arith, first, second);
      trie = subst (λ us. HasKeys us keys) (sym trie) has;
    }

-- ---- Words over contexts

none_mapped : (besides : List Beside) → 0 < length besides → map said_beside besides ≢ []
none_mapped [] some e = absurd (omega (arith, some))
none_mapped (first ∷ besides) some e = let l = ap length e in omega (arith, l)

pub suffixes_none : (pools : Pools) (own : ℕ) (besides : List Beside) (flags : SuffixFlags) → length besides ≡ 0
    → (alone : Option (List Element)) (offset : Option ℕ) → IsOwnWord pools own alone offset
    → SaysOf pools own (saying_behind alone offset (map said_beside besides) flags)
suffixes_none pools own [] flags none alone offset is = own_says pools own alone offset flags is
suffixes_none pools own (first ∷ besides) flags none alone offset is = absurd (omega (arith, none))

pub suffixes_written : (old middle new : Pools) (index word own : ℕ) (besides : List Beside) (flags : SuffixFlags)
    (keys : List (List ℕ × ℕ))
    → Grows old new → Grows middle new → word < 2 ^ 32
    → HasFields word index 0xc9 flags.all_begin flags.one_ends flags.one_holds
    → AreBeside 7 (map said_beside besides) → 0 < length besides → IsContext new.contexts index own keys
    → AreKeysOf middle false (map said_beside besides) keys
    → (alone : Option (List Element)) (offset : Option ℕ) → IsOwnWord old own alone offset
    → SaysOf new word (saying_behind alone offset (map said_beside besides) flags)
suffixes_written old middle new index word own besides flags keys grows grows_too small fields beside some context are
    alone offset is =
    contraction_says new word own alone offset (map said_beside besides) flags keys small
    (record {
      index_is = refl;
      low_is = fields.low_is;
      first = fields.first;
      second = fields.second;
      third =
          fields.third;
    })
    (IsOwnWord-larger old new grows own alone offset is) beside (none_mapped besides some)
    (subst (λ p. IsContext new.contexts p own keys) (sym fields.index_is) context)
    (keys_longer middle new false grows_too (map said_beside besides) keys are)

pub prefixes_none : (pools : Pools) (behind : ℕ) (besides : List Beside) → length besides ≡ 0
    → (saying : Saying) → SaysOf pools behind saying → saying.prefixes ≡ []
    → SaysOf pools behind (saying_before saying (map said_beside besides))
prefixes_none pools behind [] none saying says before = subst
    (λ saids. SaysOf pools behind (saying_before saying saids)) before says
prefixes_none pools behind (first ∷ besides) none saying says before = absurd (omega (arith, none))

pub prefixes_written : AreKeptLonger → (old middle new : Pools) (index word behind : ℕ) (besides : List Beside)
    (keys : List (List ℕ × ℕ))
    → Grows old new → Grows middle new → word < 2 ^ 32 → index_of word ≡ index → word % 2 ^ 8 ≡ 0xc8
    → AreBeside 3 (map said_beside besides) → 0 < length besides → IsContext new.contexts index behind keys
    → AreKeysOf middle true (map said_beside besides) keys
    → (saying : Saying) → SaysOf old behind saying → saying.prefixes ≡ [] → saying.digit ≡ None
    → SaysOf new word (saying_before saying (map said_beside besides))
prefixes_written kept old middle new index word behind besides keys grows grows_too small at_index low beside some
    context are saying says before digit =
    prefix_says new word behind saying (map said_beside besides) keys small low
    (says_longer kept old new grows behind saying says) before digit beside (none_mapped besides some)
    (subst (λ p. IsContext new.contexts p behind keys) (sym at_index) context)
    (keys_longer middle new true grows_too (map said_beside besides) keys are)

-- ---- Tests of the code

pub none_counted : (n : ℕ) (b : Bool) → b ≡ (n == 0) → b ≡ true → n ≡ 0
none_counted n b is empty = eqb-true n 0 (sym is ∙ empty)

pub some_counted : (n : ℕ) (b : Bool) → b ≡ (n == 0) → b ≡ false → 0 < n
some_counted zero b is other = absurd (true≢false (sym is ∙ other))
some_counted (suc n) b is other = omega arith

-- ---- Whole entries

own_few : (own : Option (List Element)) → own_room own ≤ 1 + own_count own
own_few None = omega arith
own_few (Some es) = omega arith

-- the room that is left for suffixes after what a character has alone
pub room_behind : (saying : Saying) (suffixes : List Beside) (pools larger : Pools)
    → HasRoom pools (element_count saying) (text_count saying) → GrowsFor (own_room saying.own) 0 pools larger
    → map said_beside suffixes ≡ saying.suffixes
    → HasRoom larger (element_sum (map said_beside suffixes)) (length suffixes)
room_behind saying suffixes pools larger room grown are =
    let a = room.ces in
    let b = grown.ces in
    let c = room.ce32s in
    let d = grown.ce32s in
    let e = room.contexts in
    let f = grown.contexts in
    let own = own_few saying.own in
    let sum = ap element_sum are in
    let count = ap length are in
    let mapped = length-map suffixes said_beside in
    record {
      ces = omega (arith, a, b, own, sum);
      ce32s = omega (arith, c, d, own, sum);
      contexts = omega (arith, e, f, count, mapped);
    }

-- what is written of a character, of its suffixes and of its prefixes, is no more than all
pub grown_entry : (saying : Saying) (suffixes prefixes : List Beside) (start own behind end : Pools)
    → GrowsFor (own_room saying.own) 0 start own
    → GrowsFor (element_sum (map said_beside suffixes)) (length suffixes) own behind
    → GrowsFor (element_sum (map said_beside prefixes)) (length prefixes) behind end
    → map said_beside suffixes ≡ saying.suffixes → map said_beside prefixes ≡ saying.prefixes
    → GrowsFor (element_count saying) (text_count saying) start end
grown_entry saying suffixes prefixes start own behind end first second third are_suffixes are_prefixes =
    let a = first.ces in
    let b = second.ces in
    let c = third.ces in
    let d = first.ce32s in
    let e = second.ce32s in
    let f = third.ce32s in
    let g = first.contexts in
    let h = second.contexts in
    let i = third.contexts in
    let few = own_few saying.own in
    let sum = ap element_sum are_suffixes in
    let other = ap element_sum are_prefixes in
    let count = ap length are_suffixes in
    let mapped = length-map suffixes said_beside in
    let more = ap length are_prefixes in
    let as_many = length-map prefixes said_beside in
    record {
      ces = omega (arith, a, b, c, few, sum, other);
      ce32s = omega (arith, d, e, f, few, sum, other);
      contexts = omega (arith, g, h, i, count, mapped, more, as_many);
    }

pub digit_alone : (saying : Saying) (value : ℕ) → saying.digit ≡ Some value
    → IfSome saying.digit (IsDigitAlone saying) → IsDigitAlone saying value
digit_alone saying value is alone = let P : Option ℕ → Type 0 = λ o. IfSome o (IsDigitAlone saying) in subst P is alone

-- what is said of a character with suffixes and prefixes is what its entry says
pub entry_said : (pools : Pools) (word : ℕ) (entry : Entry) (suffixes prefixes : List Beside) → suffixes
    ≡ entry.suffixes.items
    → prefixes ≡ entry.prefixes.items → entry.digit ≡ None
    → SaysOf pools word
    (saying_before (saying_behind (option_copied entry.own) entry.offset (map said_beside suffixes) entry.flags)
    (map said_beside prefixes))
    → SaysOf pools word (saying_of entry)
entry_said pools word entry suffixes prefixes of_suffixes of_prefixes none says =
    let make : List Beside → List Beside → Option ℕ → Saying = λ behind before digit. record {
      own = option_copied entry.own;
      offset = entry.offset;
      digit = digit;
      suffixes = map said_beside behind;
      prefixes = map said_beside before;
      all_begin = entry.flags.all_begin;
      one_ends = entry.flags.one_ends;
      one_holds = entry.flags.one_holds;
    } in
    subst (λ digit. SaysOf pools word (make entry.suffixes.items entry.prefixes.items digit)) (sym none)
    (subst (λ before. SaysOf pools word (make entry.suffixes.items before None)) of_prefixes
    (subst (λ behind. SaysOf pools word (make behind prefixes None)) of_suffixes says))
