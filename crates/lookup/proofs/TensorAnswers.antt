-- What the answer to the question for a tensor means, in terms of the full reader (ceilings 3 and
-- 39), whatever its cap and its tables are. Assumes nothing.
use Rattle.std.proofs.lemmas.Option.{none-some}
use Rattle.reading.proofs.Sames.{same_some, same_given}
use Rattle.lookup.specs.declared.TensorSearch.{TensorSearch}
use Rattle.std.specs.Prelude.{Option, Some, None}
use Prim.Native.Nat.{ℕ, ◌+◌, ◌≤◌}
use mathlib.Core.Path.{◌≡◌, refl, sym, ap, subst, ◌∙◌}
use mathlib.Core.Bool.{Bool, true, false}
use mathlib.Core.List.{List, [], ◌∷◌, ◌++◌, map}
use mathlib.Core.Logic.{inl, inr}
use native.Mathlib.Omega.{arith}
use lib.Dec.{T}
use lib.ListN.{length, take, drop, length-map}
use lib.Seq.{take_at}
use Rattle.reading.specs.Replies.{Reply, gives, refuses}
use Rattle.reading.specs.Back.{All, Sure}
use Rattle.reading.specs.Ceilings.{full}
use Rattle.reading.specs.Reading.{Answer, accepted, refused, run, seen, final}
use Rattle.reading.specs.Refusals.{is_one_of, OneOf}
use Rattle.reading.proofs.CeilingLaws.{low_run}
use Rattle.reading.proofs.Repetition.{seen-accepted, seen-refused}
use Rattle.reading.proofs.RefusalLaws.{listed_too}
use Rattle.reading.proofs.RunLaws.{stable, other_than-1, inside}
use Rattle.reading.proofs.SureLaws.{sure_then, sure_here, whatever}
use Rattle.fields.specs.Bytes.{Byte}
use Rattle.kinds.specs.Shape.{greatest}
use Rattle.values.specs.declared.Entry.{Entry}
use Rattle.tensors.specs.Rows.{tensor_row}
use Rattle.tensors.specs.declared.Tensor.{Tensor}
use Rattle.start.specs.Format.{enough}
use Rattle.start.specs.declared.Rooms.{Rooms}
use Rattle.start.specs.declared.Start.{Start}
use Rattle.header.specs.Answers.{reader_run, reader_outcome}
use Rattle.header.specs.Format.{FullHeader, judged, header}
use Rattle.header.specs.declared.Header.{Header}
use Rattle.header.proofs.Counted.{counted}
use Rattle.header.proofs.HeaderCeilings.{tabled, low-header, full_reader}
use Rattle.header.proofs.Judged.{sure_judged, low-judged, refuses_judged}
use Rattle.header.proofs.MoreRows.{ButForSix, more_rows}
use Rattle.header.proofs.NeverSix.{never-6}
use Rattle.lookup.specs.Search.{Search, found, none, first_of}
use Rattle.lookup.specs.Tensors.{searched, first_tensor, tensor_found, tensor_lookup, has_name, row_has_name, Tells, onward, FirstOfName}
use Rattle.lookup.proofs.FullReader.{record_refusals, Both, refused_both, found_at_first, found_none, both}
use Rattle.lookup.proofs.SeekLaws.{first-after, first-none, first-map}

-- the last tests refuse 16 or 18
last_tests : (c : Start) (es : List Entry) (ts : List Tensor) (e : ℕ) (s : List ℕ) → e ≤ length s → {m p : ℕ} → refused m p ≡ run (judged c es ts e) s e → is_one_of m (16 ∷ 18 ∷ []) ≡ true
last_tests c es ts e s near {m} {p} f =
    (refuses_judged c es ts e {P = λ n q. is_one_of n (16 ∷ 18 ∷ []) ≡ true} (λ over. refl) (every ts)).refusal e near m p (f ∙ sym (low_run full (judged c es ts e) (low-judged c es ts e full) s e))
  where
    every : (l : List Tensor) → All (λ (t : Tensor). is_one_of 16 (16 ∷ 18 ∷ []) ≡ true) l
    every [] = tt
    every (t ∷ l) = (refl, every l)

-- nothing is true and false
never_both : {b : Bool} → b ≡ true → b ≡ false → ⊥
never_both e f = let z : ◌≡◌ {A = ℕ} 0 1 = cc in omega arith

-- one search of two answers
same_search : {x y : Option Tensor} {n m : ℕ} → searched x n ≡ searched y m → (x ≡ y) × (n ≡ m)
same_search e = let z = same_given _ _ e in (ap (λ t. t.tensor) z, ap (λ t. t.passed) z)

-- one refusal of two answers
same-refusal : {n o m p : ℕ} → ◌≡◌ {A = Answer FullHeader} (refused n o) (refused m p) → ◌≡◌ {A = Reply TensorSearch} (refuses n o) (refuses m p)
same-refusal {n = n} {o} {m} {p} e =
    let i : n ≡ m = cc in
    let j : o ≡ p = cc in
    rw (i, j) refl

-- a refusal of a reader's run is its answer
refused-told : (cap : ℕ) (es ts : List (List ℕ)) (s : List ℕ) {n p : ℕ} → reader_run full cap es ts s ≡ refused n p → (reader_outcome full cap es ts s).answer ≡ refused n p
unfolding seen
refused-told cap es ts s e = ap (seen (λ (w : FullHeader). w.head)) e

-- no count is refused where there are rows for any
rows_for_any : (s : List ℕ) → All Byte s → (cap : ℕ) {p : ℕ} → run (header enough cap) s 0 ≡ refused 6 p → ⊥
rows_for_any s bytes cap e = never-6 full cap s bytes (low_run full (header enough cap) (low-header full (omega arith) (omega arith) enough cap) s 0 ∙ e)

-- Without rows.

module _ (name s : List ℕ) where
  -- found: the whole reader passes every check up to the end of that tensor, and no earlier one has
  -- the name
  pub found_first : {t : Tensor} {n : ℕ} → searched (Some t) n ≡ tensor_lookup name s → (cap : ℕ) → FirstOfName name s cap t n
  found_first {t} {n} e cap = by (both name s cap)
    where
      by : Both name s cap → FirstOfName name s cap t n
      by (refused_both m p f g i) = let z : ◌≡◌ {A = ℕ} 0 1 = cc in absurd (omega arith)
      by (found_at_first u m q f h) =
          let same = same_search (e ∙ ap tensor_found f) in
          let i : t ≡ u = same_some _ _ same.0 in
          let j : n ≡ m = same.1 in
          rw (i, j) h
      by (found_none m q f h) = absurd (none-some t (sym (same_search (e ∙ ap tensor_found f)).0))

  -- refused: so is the whole reader, the same
  pub refused-whole : {n p : ℕ} → refuses n p ≡ tensor_lookup name s → (cap : ℕ) → run (header enough cap) s 0 ≡ refused n p
  refused-whole {n} {p} e cap = by (both name s cap)
    where
      by : Both name s cap → run (header enough cap) s 0 ≡ refused n p
      by (refused_both m o f g k) =
          let same : refuses n p ≡ refuses m o = e ∙ ap tensor_found f in
          let i : n ≡ m = cc in
          let j : p ≡ o = cc in
          rw (i, j) g
      by (found_at_first u m q f h) = let z : ◌≡◌ {A = ℕ} 0 1 = cc in absurd (omega arith)
      by (found_none m q f h) = let z : ◌≡◌ {A = ℕ} 0 1 = cc in absurd (omega arith)

  -- a refusal is none of the last tests
  pub refused-listed : {n p : ℕ} → refuses n p ≡ tensor_lookup name s → OneOf record_refusals s n p
  refused-listed {n} {p} e = by (both name s 3)
    where
      by : Both name s 3 → OneOf record_refusals s n p
      by (refused_both m o f g k) =
          let same : refuses n p ≡ refuses m o = e ∙ ap tensor_found f in
          let i : n ≡ m = cc in
          let j : p ≡ o = cc in
          rw (i, j) k
      by (found_at_first u m q f h) = let z : ◌≡◌ {A = ℕ} 0 1 = cc in absurd (omega arith)
      by (found_none m q f h) = let z : ◌≡◌ {A = ℕ} 0 1 = cc in absurd (omega arith)

  -- nor is it 6
  pub tensor-never-6 : All Byte s → {p : ℕ} → refuses 6 p ≡ tensor_lookup name s → ⊥
  tensor-never-6 bytes e = rows_for_any s bytes 3 (refused-whole e 3)

  -- absent: the whole reader accepts, or refuses by one of its last tests
  pub absent_whole : {n : ℕ} → searched None n ≡ tensor_lookup name s → (cap : ℕ) {m p : ℕ} → run (header enough cap) s 0 ≡ refused m p → is_one_of m (16 ∷ 18 ∷ []) ≡ true
  absent_whole e cap {m} {p} r = by (both name s cap)
    where
      by : Both name s cap → is_one_of m (16 ∷ 18 ∷ []) ≡ true
      by (refused_both k o f g i) = let z : ◌≡◌ {A = ℕ} 0 1 = cc in absurd (omega arith)
      by (found_at_first u k q f h) = absurd (none-some u (same_search (e ∙ ap tensor_found f)).0)
      by (found_none k q f h) = last_tests h.c h.es h.ts q s (omega (arith, inside (first_tensor name) s 0 (sym f))) (sym r ∙ h.after)

  -- What more bytes may change: nothing, once the answer is any other than refusal 1.

  stays_by : (t : List ℕ) (r : Answer (Search Tensor)) → r ≡ run (first_tensor name) s 0 → ((p : ℕ) → tensor_found r ≡ refuses 1 p → ⊥) → T (final r)
  stays_by t (accepted (found u n) q) e other = tt
  stays_by t (accepted (none n) q) e other = tt
  stays_by t (refused n p) e other = other_than-1 {A = Search Tensor} (refused n p) refl (λ one. other p (ap (λ m. refuses m p) one))

  -- `find_tensor`: the tensor with its number, 'absent' with the number of all, or a refusal other
  -- than 1, is the same
  pub tensor-stays : (t : List ℕ) → ((p : ℕ) → tensor_lookup name s ≡ refuses 1 p → ⊥) → tensor_lookup name (s ++ t) ≡ tensor_lookup name s
  tensor-stays t other = ap tensor_found (stable (first_tensor name) s t 0 (stays_by t (run (first_tensor name) s 0) refl other))

-- The full reader with tables. 'Rows enough' are those with which it does not refuse 6.

module _ (s : List ℕ) (bytes : All Byte s) (cap : ℕ) (es ts : List (List ℕ)) where
  -- more rows than either has
  abbrev most : Rooms
  most = record { entries = length es + greatest; tensors = length ts + greatest }

  -- with rows enough it reads what the whole reader does
  pub with_rows : ((p : ℕ) → (reader_outcome full cap es ts s).answer ≡ refused 6 p → ⊥) → reader_run full cap es ts s ≡ run (header enough cap) s 0
  with_rows fits =
      full_reader cap es ts s ∙ by (more_rows s (record { entries = length es; tensors = length ts }) most (omega arith) (omega arith) cap) (more_rows s enough most (omega arith) (omega arith) cap)
    where
      by : ButForSix (run (tabled cap es ts) s 0) (run (header most cap) s 0) → ButForSix (run (header enough cap) s 0) (run (header most cap) s 0) → run (tabled cap es ts) s 0 ≡ run (header enough cap) s 0
      by (inl e) (inl f) = e ∙ sym f
      by (inl e) (inr (p, f)) = absurd (rows_for_any s bytes cap f)
      by (inr (p, e)) f = absurd (fits p (refused-told cap es ts s (full_reader cap es ts s ∙ e)))

  -- a refusal that it gives, unless it asks for rows, is the whole reader's
  module _ {m p : ℕ} (e : (reader_outcome full cap es ts s).answer ≡ refused m p) (rows : m ≡ 6 → ⊥) where
    whole-refused : run (header enough cap) s 0 ≡ refused m p
    whole-refused =
        sym (with_rows (λ o f. rows (six f))) ∙ sym (seen-refused _ _ _ _ (sym e))
      where
        six : {o : ℕ} → (reader_outcome full cap es ts s).answer ≡ refused 6 o → m ≡ 6
        six {o} f = let same : ◌≡◌ {A = Answer Header} (refused m p) (refused 6 o) = sym e ∙ f in cc

  module _ (name : List ℕ) where
    -- Whenever it accepts: the answer is that of looking through its rows from the front.

    -- the tensors that are read after some
    sure_onward : (c : Start) (l : List Entry) (us : List Tensor) (n e : ℕ) → Sure s (onward c l us n) e (λ w q. (more : List Tensor) × (w.tensors ≡ us ++ more))
    sure_onward c l us n e = sure_then whatever (λ more q u. sure_here _ (sure_judged c l (us ++ more) q (λ tested. (more, refl))))

    tells_found : (before : List Tensor) (t : Tensor) (n : ℕ) → n ≡ length before + 1 → All (λ (u : Tensor). has_name name s u ≡ false) before → has_name name s t ≡ true
        → {l : List Tensor} (more : List Tensor) → l ≡ (before ++ (t ∷ [])) ++ more → Tells (searched (Some t) n) (first_of (row_has_name name s) 0 (map tensor_row l))
    tells_found before t n number others has more e =
        rw (e, first-map tensor_row (row_has_name name s) ((before ++ (t ∷ [])) ++ more) 0, first-after (has_name name s) before t more 0 others has) (refl, omega (arith, number))

    tells_none : (n : ℕ) (l : List Tensor) → n ≡ length l → All (λ (u : Tensor). has_name name s u ≡ false) l → Tells (searched None n) (first_of (row_has_name name s) 0 (map tensor_row l))
    tells_none n l number others =
        rw (first-map tensor_row (row_has_name name s) l 0, first-none (has_name name s) l 0 others) (omega (arith, number))

    tells_by : {w : FullHeader} {q : ℕ} → accepted w q ≡ run (header enough cap) s 0 → Both name s cap → Tells (tensor_lookup name s) (first_of (row_has_name name s) 0 (map tensor_row w.tensors))
    tells_by e (refused_both n p f g i) = let z : ◌≡◌ {A = ℕ} 0 1 = cc in absurd (omega arith)
    tells_by {w} {q} e (found_at_first t n o f h) =
        let g = (sure_onward h.c h.es (h.before ++ (t ∷ [])) h.left h.end).holds w q (e ∙ h.after) in
        rw f (tells_found h.before t n h.number h.others h.has g.0 g.1)
    tells_by {w} {q} e (found_none n o f h) =
        let g : w.tensors ≡ h.ts = (sure_judged h.c h.es h.ts o {Q = λ x u. x.tensors ≡ h.ts} (λ tested. refl)).holds w q (e ∙ h.after) in
        rw (f, g) (tells_none n h.ts h.number h.others)

    -- the rows that it leaves are those of the tensors that it read
    rows_left : (w : FullHeader) (q : ℕ) → accepted w q ≡ reader_run full cap es ts s → take w.head.tensors (reader_outcome full cap es ts s).tensors ≡ map tensor_row w.tensors
    unfolding seen
    rows_left w q e =
        rw (← e) (take_at (map tensor_row w.tensors) (drop (length w.tensors) ts) w.head.tensors (length-map w.tensors tensor_row ∙ (counted full cap es ts s e).tensors))

    -- the same ten words, or none; and the same number
    pub by_rows : {h : Header} {q : ℕ} → accepted h q ≡ (reader_outcome full cap es ts s).answer → Tells (tensor_lookup name s) (first_of (row_has_name name s) 0 (take h.tensors (reader_outcome full cap es ts s).tensors))
    by_rows {h} {q} e =
        let w = seen-accepted _ _ _ _ e in
        let same : run (header enough cap) s 0 ≡ accepted w.0 q = sym (with_rows (λ p f. not-refused f)) ∙ sym w.1 in
        rw (w.2, rows_left w.0 q w.1) (tells_by (sym same) (both name s cap))
      where
        not-refused : {p : ℕ} → (reader_outcome full cap es ts s).answer ≡ refused 6 p → ⊥
        not-refused f = let z : ◌≡◌ {A = ℕ} 0 1 = cc in omega arith

    -- Where none is found: its refusal, unless that is 16 or 18 (or 6), or 'absent'.

    -- a refusal is its own
    pub refused_reader : {n p : ℕ} → refuses n p ≡ tensor_lookup name s → ((o : ℕ) → (reader_outcome full cap es ts s).answer ≡ refused 6 o → ⊥) → (reader_outcome full cap es ts s).answer ≡ refused n p
    refused_reader e fits = refused-told cap es ts s (with_rows fits ∙ refused-whole name s e cap)

    -- at 'absent' it accepts, or refuses 16 or 18 (or 6)
    pub absent_reader : {n : ℕ} → searched None n ≡ tensor_lookup name s → {m p : ℕ} → (reader_outcome full cap es ts s).answer ≡ refused m p → (m ≡ 6 → ⊥) → is_one_of m (16 ∷ 18 ∷ []) ≡ true
    absent_reader e r rows = absent_whole name s e cap (whole-refused r rows)

    -- so any other refusal of its own is the answer
    pub none_found : {m p : ℕ} → (reader_outcome full cap es ts s).answer ≡ refused m p → is_one_of m (6 ∷ 16 ∷ 18 ∷ []) ≡ false → ((t : Tensor) (n : ℕ) → tensor_lookup name s ≡ searched (Some t) n → ⊥) → tensor_lookup name s ≡ refuses m p
    none_found {m} {p} e other never = by (tensor_lookup name s) refl
      where
        rows : m ≡ 6 → ⊥
        rows i = never_both refl (subst (λ x. is_one_of x (6 ∷ 16 ∷ 18 ∷ []) ≡ false) i other)

        by_tensor : (x : Option Tensor) (n : ℕ) → searched x n ≡ tensor_lookup name s → searched x n ≡ refuses m p
        by_tensor (Some t) n f = absurd (never t n (sym f))
        by_tensor None n f = absurd (never_both (listed_too m (16 ∷ 18 ∷ []) (6 ∷ 16 ∷ 18 ∷ []) refl (absent_reader f e rows)) other)

        by : (l : Reply TensorSearch) → l ≡ tensor_lookup name s → l ≡ refuses m p
        by (gives x) f = by_tensor x.tensor x.passed f
        by (refuses n o) f = same-refusal (sym (refused-whole name s f cap) ∙ whole-refused e rows)
