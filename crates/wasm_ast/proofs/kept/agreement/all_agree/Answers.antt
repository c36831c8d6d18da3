use Rattle.std.proofs.Common.{◌≡◌, ℕ, ◌+◌, ◌<◌, Bool, true, false, not, List, [], ◌∷◌, ◌++◌, map, take, length, get_or, refl, ap, sym, ◌∙◌, subst, Vec, Global, arith}
use Rattle.std.specs.Prelude.{bytes_eq}
use Rattle.std.specs.BTreeMap.{insert_entry}
use Rattle.std.proofs.lemmas.List.{map_more, take-map, take_all}
use Rattle.std.proofs.lemmas.Slice.Eq.{bytes_eq-Decides}
use Rattle.wasm_ast.specs.Kept.{all_agree}
use Rattle.wasm_ast.proofs.Pairs.{Pair, In, In-map, In-take, In-get_or, Tracks, tracks-again, tracks-new, tracked_agree, not_all_agree}
use Rattle.wasm_ast.proofs.Held.{lists, order, found, absent, inserted, here, stays}
use Rattle.wasm_ast.proofs.kept.agreement.all_agree.Goals as goal
use Rattle.wasm_ast.proofs.kept.agreement.all_agree.Goals.{in-Some+else-ne, in-None+in_ok-insert-in-None}

abbrev pair_of : Vec ℕ Global × Vec ℕ Global → Pair
pair_of p = (p.0.items, p.1.items)

-- a pair before a place, and the pair there
before_in : (xs : List (Vec ℕ Global × Vec ℕ Global)) (n : ℕ) (a : Pair) → In a (map pair_of (take n xs)) → In a (map pair_of xs)
before_in xs n a i = In-take a n (map pair_of xs) (subst (λ l. In a l) (sym (take-map pair_of n xs)) i)

pub returns-then-ne : goal.returns-then-ne
returns-then-ne c =
    let first = c.as_slice-first.result.now in
    let known = c.in-Some.known.now in
    let xs = c.args.pairs.now in
    let lt : c.loop-pair.pair-index < length xs = omega arith in
    let held : In (first, known.now) (lists c.loop-pair.seen.entries) = found first c.loop-pair.seen.entries known c.in-Some.ensures.value in
    let there : In c.pair-item.result xs = subst (λ p. In p xs) (sym c.pair-item.is) (In-get_or xs c.loop-pair.pair-index c.pair-item.result lt) in
    not_all_agree (map pair_of xs) (first, known.now) (pair_of c.pair-item.result)
    (before_in xs c.loop-pair.pair-index (first, known.now) (c.loop-pair.invariant.only (first, known.now) held))
    (In-map pair_of c.pair-item.result xs there) c.as_slice-first.ensures.value
    (λ same.
    let equal : bytes_eq known.now c.as_slice-second.result.now ≡ true = (bytes_eq-Decides known.now c.as_slice-second.result.now).1 (same ∙ sym c.as_slice-second.ensures.value) in
    cc (c.ne.ensures, c.if-ne.true, ap not equal))

-- one pair more
one_more : (xs : List (Vec ℕ Global × Vec ℕ Global)) (i : ℕ) (p : Vec ℕ Global × Vec ℕ Global) → i < length xs → p ≡ get_or xs i p → map pair_of (take (i + 1) xs) ≡ map pair_of (take i xs) ++ pair_of p ∷ []
one_more xs i p lt is = map_more pair_of xs i p lt ∙ ap (λ q. map pair_of (take i xs) ++ pair_of q ∷ []) (sym is)

told : (b : Bool) → not b ≡ false → b ≡ true
told true e = refl
told false e = sym e

-- lists that a test tells not to differ
not_different : (r : Bool) (k l : List ℕ) → r ≡ not (bytes_eq k l) → r ≡ false → k ≡ l
not_different r k l e f = (bytes_eq-Decides k l).0 (told (bytes_eq k l) (sym e ∙ f))

pub loop-pair-preserved : goal.loop-pair-preserved
loop-pair-preserved c =
    let xs = c.args.pairs.now in
    let i = c.loop-pair.pair-index in
    let lt : i < length xs = omega arith in
    let first = c.as_slice-first.result.now in
    let es = c.loop-pair.seen.entries in
    let more = one_more xs i c.pair-item.result lt c.pair-item.is in
    elim c.match-get.branch [
      | in-Some+else-ne w ↦ (
          let held : In (first, w.in-Some.known.now.now) (lists es) = found first es w.in-Some.known.now w.in-Some.ensures.value in
          let seconds = not_different w.ne.result w.in-Some.known.now.now c.as_slice-second.result.now w.ne.ensures w.if-ne.false ∙ c.as_slice-second.ensures.value in
          let there : In (pair_of c.pair-item.result) (lists es) = subst (λ k. In (k, c.pair-item.result.1.items) (lists es)) c.as_slice-first.ensures.value (subst (λ v. In (first, v) (lists es)) seconds held) in
          subst (λ s. Tracks (map pair_of (take (i + 1) xs)) (lists s.entries)) (sym w.seen-is)
          (subst (λ l. Tracks l (lists es)) (sym more) (tracks-again (map pair_of (take i xs)) (lists es) c.loop-pair.invariant (pair_of c.pair-item.result) there)))
      | in-None+in_ok-insert-in-None w ↦ (
          let k = c.as_slice-first.result in
          let v = c.as_slice-second.result in
          let none = w.in-None.ensures.value in
          let ys = map pair_of (take i xs) in
          let new : Tracks (ys ++ (k.now, v.now) ∷ []) (lists (insert_entry order es k v)) =
          tracks-new ys (lists es) c.loop-pair.invariant (k.now, v.now) (lists (insert_entry order es k v)) (absent k.now es none) (inserted k v es none) (here k v es none) (stays k v es none) in
          let same : (k.now, v.now) ≡ pair_of c.pair-item.result =
          ap (λ l. (l, v.now)) c.as_slice-first.ensures.value ∙ ap (λ l. (c.pair-item.result.0.items, l)) c.as_slice-second.ensures.value in
          let so_far : ys ++ (k.now, v.now) ∷ [] ≡ map pair_of (take (i + 1) xs) = ap (λ p. ys ++ p ∷ []) same ∙ sym more in
          subst (λ s. Tracks (map pair_of (take (i + 1) xs)) (lists s.entries)) (sym w.seen-is)
          (subst (λ q. Tracks (map pair_of (take (i + 1) xs)) (lists q)) (sym w.in_ok-insert-in-None.ensures.entries) (subst (λ l. Tracks l (lists (insert_entry order es k v))) so_far new)))
    ]

pub returns : goal.returns
returns c =
    let xs = c.args.pairs.now in
    let all : take c.loop-pair.pair-index xs ≡ xs = take_all c.loop-pair.pair-index xs (omega arith) in
    subst (λ l. true ≡ all_agree (map pair_of l)) all (tracked_agree (map pair_of (take c.loop-pair.pair-index xs)) (lists c.loop-pair.seen.entries) c.loop-pair.invariant)
