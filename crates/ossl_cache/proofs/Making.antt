-- An order of the last places, made one by one; and places that are emptied in their vector.
use Rattle.std.proofs.Common.{◌≡◌, ◌∙◌, ◌<◌, ◌+◌, ℕ, refl, sym, ap, Bool, true, false, List, [], ◌∷◌, map, Option, None, replicate, leb, length, take, nat_eq, Vec, arith}
use Rattle.std.specs.Vec.{with_items}
use Rattle.std.proofs.lemmas.List.{take_all, with_items_is, length-map, length-replicate, get_or-replicate, get_or_past}
use Rattle.std.proofs.lemmas.Bool.{ne_eqb, lt-ltb, leb-true, leb-false}
use Rattle.lru.specs.LruCache.{LruCache, lru_cache, put_entries}
use Rattle.ossl_cache.specs.Recent.{Answer, most, without}
use Rattle.ossl_cache.specs.Places.{Order, held_at, shown, emptied, are_places}
use Rattle.ossl_cache.proofs.Showing.{shown_kept}
use Rattle.ossl_cache.proofs.Placing.{is_named, are_places-more, entry-unnamed}

-- the order of 64 places but the first n
pub record AreLast (n : ℕ) (c : LruCache ℕ (Unit {0})) : Type 0 where
  pub cap : c.cap ≡ most
  pub room : length c.entries + n ≡ most
  pub once : are_places c.entries ≡ true
  pub later : (k : ℕ) → k < n → is_named k c.entries ≡ false

pub last-none : AreLast most (lru_cache [] most)
last-none = record { cap = refl; room = refl; once = refl; later = λ k h. refl }

pub last-more : (c : LruCache ℕ (Unit {0})) (n : ℕ) → n < most → AreLast (n + 1) c → AreLast n (lru_cache (put_entries nat_eq c n tt) c.cap)
last-more c n h so_far =
    let unnamed = so_far.later n (omega arith) in
    let whole : take 63 c.entries ≡ c.entries = take_all 63 c.entries (omega (arith, so_far.room)) in
    let fits = lt-ltb n most h in
    rw (entry-unnamed n c.entries unnamed, so_far.cap, whole) (record {
      cap = refl;
      room = omega (arith, so_far.room);
      once = are_places-more n c.entries fits unnamed so_far.once;
      later = λ k under. let differs : nat_eq k n ≡ false = ne_eqb k n (λ same. omega arith) in rw (differs) (so_far.later k (omega arith));
    })

-- places that hold nothing show nothing
abbrev nothing : Option Answer
nothing = None

pub free : (n i : ℕ) → held_at (replicate n None) i ≡ None
free n i = go (leb n i) refl
  where
    go : (b : Bool) → leb n i ≡ b → held_at (replicate n None) i ≡ None
    go true past = get_or_past (replicate n nothing) i nothing (omega (arith, leb-true n i past, length-replicate n nothing))
    go false within = get_or-replicate n i nothing nothing (leb-false n i within)

pub shown-free : (n : ℕ) (es : Order) → shown (replicate n None) es ≡ []
shown-free n [] = refl
shown-free n (e ∷ es) = rw (free n e.0, shown-free n es) refl

module _ {Z : Type 0} (v : Vec (Option Answer) Z) (test : Answer → Bool) (ws : List (Option Answer)) (changed : ws ≡ map (emptied test) v.items) where
  pub emptied-items : (with_items v ws).items ≡ map (emptied test) v.items
  emptied-items = with_items_is v ws (ap length changed ∙ length-map v.items (emptied test) ∙ sym v.ok.0) ∙ changed

  pub emptied-shows : (es : Order) → shown (with_items v ws).items es ≡ without test (shown v.items es)
  emptied-shows es = ap (λ s. shown s es) emptied-items ∙ shown_kept test v.items es
