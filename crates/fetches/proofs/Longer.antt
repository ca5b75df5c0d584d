-- What a longer trace answers: further records change no answer but never, and a record that is
-- there already changes none. Assumes nothing.
use Prim.Native.Nat.{ℕ, suc, ◌+◌, ◌*◌, ◌≤◌, ◌<◌}
use mathlib.Core.Path.{◌≡◌, refl, sym, ap, ◌∙◌}
use mathlib.Core.Bool.{true}
use mathlib.Core.List.{List, ◌++◌}
use native.Mathlib.Omega.{arith}
use lib.ListN.{length, take, drop, length-append, length-drop}
use lib.Seq.{take-take, drop-append_seam, length-take-le}
use Rattle.reading.specs.Back.{got}
use Rattle.reading.specs.Reading.{is_accepted}
use Rattle.reading.proofs.Cases.{split}
use Rattle.reading.proofs.RunLaws.{field-stays}
use Rattle.fetches.specs.Trace.{fetch_of, fetch_at, fetch_end, fetches}
use Rattle.fetches.specs.Replay.{never, first_after}
use Rattle.fetches.specs.Sweep.{nth}
use Rattle.fetches.specs.declared.Fetch.{Fetch}
use Rattle.fetches.proofs.Meaning.{Complete, Told, after, nowhere, told, only, at_most}
use Rattle.fetches.proofs.Records.{Good, Whole, whole, fetched, well_formed}

-- the list m begins with the records of l
pub record Begins (l m : List Fetch) : Type 0 where
  pub count : length l ≤ length m
  pub each : (i : ℕ) → i < length l → nth m i ≡ nth l i

-- each record of m is one of l
abbrev pub Among : List Fetch → List Fetch → Type 0
Among l m = (i : ℕ) → i < length m → (j : ℕ) × (j < length l) × (nth m i ≡ nth l j)

module _ (file : ℕ) {l m : List Fetch} (b : Begins l m) (x n : ℕ) where
  -- what the first records deliver they still deliver, and no more than that
  still : (k : ℕ) → Complete file l x n k → Complete file m x n k
  still k all y g h =
      let t = all y g h in
      record { which = t.which; among = t.among; there = omega (arith, t.there, b.count); does = rw (b.each t.which t.there) t.does }

  already : (k : ℕ) → k ≤ length l → Complete file m x n k → Complete file l x n k
  already k most all y g h =
      let t = all y g h in
      let there : t.which < length l = omega (arith, t.among) in
      record { which = t.which; among = t.among; there = there; does = rw (b.each t.which there) at t.does }

  still-told : (k : ℕ) → Complete file l x n k → ((j : ℕ) → j < k → Complete file l x n j → ⊥) → Told file m x n k
  still-told k all fewer = after k (still k all) (λ j g more. fewer j g (already j (omega (arith, at_most file l x n k all fewer)) more))

  -- further records change no answer but never
  further-told : (a : ℕ) → Told file l x n a → (a ≡ never → ⊥) → Told file m x n a
  further-told a (after k all fewer) h = still-told k all fewer
  further-told a (nowhere not) h = absurd (h refl)

  pub further : (first_after file l x n ≡ never → ⊥) → first_after file m x n ≡ first_after file l x n
  further h = only file m x n _ _ (told file m x n) (further-told _ (told file l x n) h)

  -- records that are there already change none
  module _ (among : Among l m) where
    nothing_new : (k : ℕ) → Complete file m x n k → Complete file l x n (length l)
    nothing_new k all y g h =
        let t = all y g h in
        let j = among t.which t.there in
        record { which = j.0; among = j.1; there = j.1; does = rw j.2 at t.does }

    again-told : (a : ℕ) → Told file l x n a → Told file m x n a
    again-told a (after k all fewer) = still-told k all fewer
    again-told a (nowhere not) = nowhere (λ k all. not (length l) (nothing_new k all))

    pub again : first_after file m x n ≡ first_after file l x n
    again = only file m x n _ _ (told file m x n) (again-told _ (told file l x n))

-- Over bytes.

-- what stands in a trace stands there when bytes follow
module _ (s t : List ℕ) (p : ℕ) (g : Good s p) where
  fetch-stays : fetch_at (s ++ t) p ≡ fetch_at s p
  fetch-stays = ap fetch_of (field-stays s t p 20 g.inside)

  good-stays : Good (s ++ t) p
  good-stays = record {
    inside = rw length-append (omega (arith, g.inside));
    sixteen = rw (field-stays s t p 4 (omega (arith, g.inside))) g.sixteen;
    fits = omega (arith, ap fetch_end fetch-stays, g.fits);
  }

-- so the fetches of a trace begin those of a longer one
pub begins : (s t : List ℕ) → is_accepted (fetches s) ≡ true → is_accepted (fetches (s ++ t)) ≡ true → Begins (got (fetches s)) (got (fetches (s ++ t)))
begins s t a b =
    let short = whole s a in
    let long = whole (s ++ t) b in
    let both : length (s ++ t) ≡ length s + length t = length-append s t in
    let count : length (got (fetches s)) ≤ length (got (fetches (s ++ t))) = omega (arith, short.long, long.long, both) in
    record {
      count = count;
      each = λ i h. fetched (s ++ t) b i (omega arith) ∙ fetch-stays s t (1 + 20 * i) (short.good i h) ∙ sym (fetched s a i h);
    }

-- a trace with its record at p once more at its end
abbrev pub doubled : List ℕ → ℕ → List ℕ
doubled s p = s ++ take 20 (drop p s)

module _ (s : List ℕ) (p : ℕ) (g : Good s p) where
  doubled-long : length (doubled s p) ≡ length s + 20
  doubled-long =
      let added : length (take 20 (drop p s)) ≡ 20 = length-take-le 20 (drop p s) (rw length-drop (omega (arith, g.inside))) in
      length-append s (take 20 (drop p s)) ∙ ap (λ n. length s + n) added

  -- its bytes are the same there
  bytes-again : (w : ℕ) → w ≤ 20 → take w (drop (length s) (doubled s p)) ≡ take w (drop p s)
  bytes-again w h = rw (drop-append_seam s (take 20 (drop p s))) (take-take w 20 (drop p s) h)

  fetch-again : fetch_at (doubled s p) (length s) ≡ fetch_at s p
  fetch-again = ap fetch_of (bytes-again 20 (omega arith))

  good-again : Good (doubled s p) (length s)
  good-again = record {
    inside = omega (arith, doubled-long);
    sixteen = rw (bytes-again 4 (omega arith)) g.sixteen;
    fits = omega (arith, ap fetch_end fetch-again, g.fits);
  }

module _ (s : List ℕ) (a : is_accepted (fetches s) ≡ true) (i : ℕ) (h : i < length (got (fetches s))) where
  at_i : Good s (1 + 20 * i)
  at_i = (whole s a).good i h

  abbrev longer : List ℕ
  longer = doubled s (1 + 20 * i)

  -- the trace with record i once more is well formed
  whole_again : Whole longer (suc (length (got (fetches s))))
  whole_again =
      let t = whole s a in
      record {
        long = doubled-long s (1 + 20 * i) at_i ∙ omega (arith, t.long);
        one = rw (field-stays s (take 20 (drop (1 + 20 * i) s)) 0 1 (omega (arith, t.long))) t.one;
        good = λ j g. split j (length (got (fetches s)))
            (λ below. good-stays s _ (1 + 20 * j) (t.good j below))
            (λ above.
            let last : 1 + 20 * j ≡ length s = omega (arith, t.long) in
            rw last (good-again s (1 + 20 * i) at_i));
      }

  pub accepted-again : is_accepted (fetches longer) ≡ true
  accepted-again = well_formed longer whole_again

  -- and it fetches nothing else
  pub among-again : Among (got (fetches s)) (got (fetches longer))
  among-again j g =
      let t = whole s a in
      let b = accepted-again in
      split j (length (got (fetches s)))
      (λ below. (j, below, fetched longer b j g ∙ fetch-stays s _ (1 + 20 * j) (t.good j below) ∙ sym (fetched s a j below)))
      (λ above.
      let last : 1 + 20 * j ≡ length s = omega (arith, t.long, (whole longer b).long, doubled-long s (1 + 20 * i) at_i) in
      (i, h, fetched longer b j g ∙ rw last (fetch-again s (1 + 20 * i) at_i) ∙ sym (fetched s a i h)))
