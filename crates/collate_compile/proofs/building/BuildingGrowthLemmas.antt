-- How far a layer in the making has grown.
use Rattle.std.proofs.Common.{◌≡◌, ℕ, ◌+◌, ◌<◌, ◌≤◌, ◌==◌, Bool, false, List, [], ◌∷◌, ◌++◌, length, take, get_or, refl, sym, ap, ◌∙◌, subst, arith}
use Rattle.std.specs.Prelude.{sum_by}
use Rattle.std.proofs.lemmas.Bool.{or_parts}
use Rattle.std.proofs.lemmas.List.{take_more}
use Rattle.std.proofs.lemmas.List.Folds.{list_any-append}
use Rattle.std.proofs.lemmas.List.Sums.{sum_by_more_le, sum_by_push}
use Rattle.icu_codepointtrie.specs.Blocks.{different_blocks}
use Rattle.icu_collator_core.specs.Pools.{Pools}
use Rattle.collate_words.specs.Fits.{HasRoom}
use Rattle.collate_words.specs.Growth.{GrowsFor}
use Rattle.collate_words.specs.Sayings.{Saying, element_count, text_count}
use Rattle.collate_compile.specs.declared.layer_builder.LayerBuilder.{LayerBuilder}
use Rattle.collate_compile.specs.LayerBuilds.{GivesWord, GrowsBy, IsSameMap, KeepsOthers}
use Rattle.collate_compile.proofs.building.MapLemmas.{mapped-other}
use Rattle.collate_compile.proofs.gathering.NameLemmas.{is_among}

pub grown_for : (a b c d n m : ℕ) (old mid new : Pools) → GrowsFor a b old mid → GrowsFor c d mid new → a + c ≡ n
    → b + d ≡ m → GrowsFor n m old new
grown_for a b c d n m old mid new first second e f = record {
  ces = omega (arith, first.ces, second.ces, e);
  ce32s = omega (arith, first.ce32s, second.ce32s, e);
  contexts = omega (arith, first.contexts, second.contexts, f);
}

pub same_map : (layer : LayerBuilder) → IsSameMap layer layer
same_map layer = record { count = refl; trie_type = refl }

pub same_map_along : (old mid new : LayerBuilder) → IsSameMap old mid → IsSameMap mid new → IsSameMap old new
same_map_along old mid new first second =
    record { count = second.count ∙ first.count; trie_type = second.trie_type ∙ first.trie_type }

-- a write keeps the map's length and type
pub same_written : (old new : LayerBuilder) (covers : ℕ → Bool) (saying : Saying) → GivesWord old new covers saying
    → IsSameMap old new
same_written old new covers saying gives =
    record { count = gives.written.all; trie_type = gives.written.trie_type }

-- ---- By ranges

pub grown_none : (layer : LayerBuilder) → GrowsBy 0 0 layer layer
grown_none layer = record {
  pools = record { ces = omega arith; ce32s = omega arith; contexts = omega arith };
  blocks = λ width. omega arith;
  same = same_map layer;
}

pub grown_more : (a x b y n m : ℕ) (old mid new : LayerBuilder) → GrowsBy a x old mid → GrowsBy b y mid new
    → a + b ≡ n → x + y ≡ m → GrowsBy n m old new
grown_more a x b y n m old mid new first second e f = record {
  pools = grown_for a 0 b 0 n 0 old.pools mid.pools new.pools first.pools second.pools e refl;
  blocks = λ width. omega (arith, first.blocks width, second.blocks width);
  same = same_map_along old mid new first.same second.same;
}

-- a range makes three different blocks at most
pub grown_range : (old new : LayerBuilder) (covers : ℕ → Bool) (saying : Saying)
    → GrowsFor (element_count saying) (text_count saying) old.pools new.pools → element_count saying ≡ 1
    → text_count saying ≡ 0
    → ((width : ℕ) → different_blocks (λ n. n) width new.words.values
    ≤ different_blocks (λ n. n) width old.words.values + 3)
    → GivesWord old new covers saying → GrowsBy 1 3 old new
grown_range old new covers saying grown one none blocks gives = record {
  pools = record {
    ces = omega (arith, grown.ces, one);
    ce32s = omega (arith, grown.ce32s, one);
    contexts = omega (arith, grown.contexts, none);
  };
  blocks = blocks;
  same = same_written old new covers saying gives;
}

-- ---- By characters

pub kept_none : (layer : LayerBuilder) → KeepsOthers 0 0 [] layer layer
kept_none layer = record {
  pools = record { ces = omega arith; ce32s = omega arith; contexts = omega arith };
  words = λ c inside other. refl;
  same = same_map layer;
}

module _ (f g : ℕ → ℕ) (cs : List ℕ) (c : ℕ) (old mid new : LayerBuilder) (saying : Saying) where
  pub kept_more : KeepsOthers (sum_by f cs) (sum_by g cs) cs old mid → GivesWord mid new (λ d. d == c) saying
      → GrowsFor (f c) (g c) mid.pools new.pools
      → KeepsOthers (sum_by f (cs ++ c ∷ [])) (sum_by g (cs ++ c ∷ [])) (cs ++ c ∷ []) old new
  kept_more kept gives grown = record {
    pools = grown_for (sum_by f cs) (sum_by g cs) (f c) (g c) (sum_by f (cs ++ c ∷ [])) (sum_by g (cs ++ c ∷ []))
        old.pools mid.pools new.pools kept.pools grown (sym (sum_by_push f cs c)) (sym (sum_by_push g cs c));
    words = λ d inside other.
        let parts = or_parts (is_among d cs) (is_among d (c ∷ []))
        (sym (list_any-append (λ e. d == e) cs (c ∷ [])) ∙ other) in
        let apart = (or_parts (d == c) false parts.1).0 in
        mapped-other mid.words new.words (λ e. e == c) gives.word gives.written d inside apart
        ∙ kept.words d inside parts.0;
    same = same_map_along old mid new kept.same (same_written mid new (λ d. d == c) saying gives);
  }

-- ---- The room that is left

pub room_left : (total texts done used more rest : ℕ) (old new : Pools) → HasRoom old total texts
    → GrowsFor done used old new → done + more ≤ total → used + rest ≤ texts → HasRoom new more rest
room_left total texts done used more rest old new room grown few short = record {
  ces = omega (arith, room.ces, grown.ces, few);
  ce32s = omega (arith, room.ce32s, grown.ce32s, few);
  contexts = omega (arith, room.contexts, grown.contexts, short);
}

-- what takes less has room
pub room_within : (total texts more rest : ℕ) (pools : Pools) → HasRoom pools total texts → more ≤ total → rest ≤ texts
    → HasRoom pools more rest
room_within total texts more rest pools room few short = record {
  ces = omega (arith, room.ces, few);
  ce32s = omega (arith, room.ce32s, few);
  contexts = omega (arith, room.contexts, short);
}

pub grown_within : (done used total texts : ℕ) (old new : Pools) → GrowsFor done used old new → done ≤ total
    → used ≤ texts → GrowsFor total texts old new
grown_within done used total texts old new grown few short = record {
  ces = omega (arith, grown.ces, few);
  ce32s = omega (arith, grown.ce32s, few);
  contexts = omega (arith, grown.contexts, short);
}

-- lists with nothing in them have room for whatever lines may take
pub room_at_first : (pools : Pools) (elements texts : ℕ) → pools ≡ record { ces = []; ce32s = []; contexts = [] }
    → elements ≤ 520000 → texts ≤ 3600 → HasRoom pools elements texts
room_at_first pools elements texts empty few short =
    subst (λ (p : Pools). HasRoom p elements texts) (sym empty)
    (record { ces = omega (arith, few); ce32s = omega (arith, few); contexts = omega (arith, short) })

-- the next of a list, beside those before it
module _ (f : ℕ → ℕ) (xs : List ℕ) (i x : ℕ) (h : i < length xs) (e : x ≡ get_or xs i x) where
  pub next_within : sum_by f (take i xs) + f x ≤ sum_by f xs
  next_within = subst (λ (y : ℕ). sum_by f (take i xs) + f y ≤ sum_by f xs) (sym e) (sum_by_more_le f xs i x h)

  pub next_taken : take i xs ++ x ∷ [] ≡ take (i + 1) xs
  next_taken = ap (λ (y : ℕ). take i xs ++ y ∷ []) e ∙ sym (take_more xs i x h)
