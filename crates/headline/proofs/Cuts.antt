-- From a module whose bodies were cut to the module as it was read.
use Rattle.std.proofs.Common.{◌≡◌, ℕ, ◌+◌, ◌*◌, ◌≤◌, inl, inr, true, List, [], sym, ap, ◌∙◌, subst, arith}
use Rattle.std.specs.Prelude.{nat_le, nat_lt}
use Rattle.std.proofs.lemmas.Bool.{le-leb, leb-true}
use Rattle.host_kit.specs.Fits.{ScriptFits}
use Rattle.host_kit.specs.Scripts.{regrow}
use Rattle.host_kit.specs.Trace.{Mark, Seen, Begins, answers, captured, events, seen}
use Rattle.host_kit.specs.declared.script.Script.{Script}
use Rattle.host_kit.proofs.Marks.{begins_trans}
use Rattle.wasm_ast.specs.Region.{fixed_pages}
use Rattle.wasm_ast.specs.declared.module.parts.Module.{Module}
use Rattle.core1_ast.specs.declared.module.parts.Module1.{Module1}
use Rattle.meaning_new.specs.Interface.{interface}
use Rattle.meaning_new.specs.Runs.{trace}
use Rattle.meaning_core1.specs.Runs.{trace1, depth1}
use Rattle.headline.specs.Cuts.{CutsAreLinkedAlike, CutsAreSame, IsCut}
use Rattle.stage_entry.specs.Cut.{pages}
use Rattle.headline.specs.Headline.{OutToIn, Same, SameUnder, StoppedFull, has_pages, safe, unmapped}
use Rattle.headline.specs.Mapping.{map_script}
use Rattle.headline.specs.MappedEvents.{FitEvents}
use Rattle.headline.specs.MappedInterface.{SameInterface, mapped_interface}
use Rattle.headline.specs.Unmapping.{unmap}
use Rattle.headline.proofs.Bodies.{fit_events_bodies, fits_bodies, interface_bodies, unmap_bodies}
use Rattle.headline.proofs.Sights.{begins_seen, cut_begins}

-- modules that are the same beside bodies
pub only_bodies : (m cut : Module) → record cut { codes = [] } ≡ record m { codes = [] } → record cut { codes = m.codes } ≡ m
only_bodies m cut e = ap (λ (x : Module). record x { codes = m.codes }) e

few_pages : (n k : ℕ) → n ≤ k → nat_le k 65536 ≡ true → nat_le n 65536 ≡ true
few_pages n k le e = let few = leb-true k 65536 e in le-leb n 65536 (omega (arith, le, few))

module _ (m cut : Module) (m1 : Module1) (h : IsCut m cut) where
  is : record cut { codes = m.codes } ≡ m
  is = only_bodies m cut h.parts

  is_back : record m { codes = cut.codes } ≡ cut
  is_back = only_bodies cut m (sym h.parts)

  pub linked_alike : SameInterface cut m1 → SameInterface m m1
  linked_alike k = k ∙ ap mapped_interface (sym (interface_bodies cut m.codes) ∙ ap interface is)

  same_unmapped : (s : Script) (n : ℕ) → unmapped cut m1 s n ≡ unmapped m m1 s n
  same_unmapped s n =
      sym (unmap_bodies cut m.codes s (seen (trace1 m1 (map_script m s) n))) ∙ ap (λ x. unmap x s (seen (trace1 m1 (map_script m s) n))) is

  wider : (sizes : List ℕ) → has_pages m sizes ≡ true → has_pages cut sizes ≡ true
  wider sizes e = few_pages (fixed_pages cut + pages cut sizes) (fixed_pages m + pages m sizes) (h.pages sizes) e

  module _ (a b captures : ℕ) (s : Script) where
    fits_cut : ScriptFits m s → ScriptFits cut s
    fits_cut k = subst (λ x. ScriptFits x s) is_back (fits_bodies m cut.codes s k)

    fit_events : (n : ℕ) → FitEvents cut s (events (trace1 m1 (map_script cut s) n)) → FitEvents m s (events (trace1 m1 (map_script m s) n))
    fit_events n k = subst (λ x. FitEvents x s (events (trace1 m1 (map_script m s) n))) is (fit_events_bodies cut m.codes s (events (trace1 m1 (map_script m s) n)) k)

    stopped : (shown shown' : List Seen) (marks marks' : List Mark) → shown ≡ shown' → marks ≡ marks' → StoppedFull captures shown marks → StoppedFull captures shown' marks'
    stopped shown shown' marks marks' e f k = subst (λ l. StoppedFull captures shown' l) f (subst (λ l. StoppedFull captures l marks) e k)

    out_to_in : (n : ℕ) → OutToIn a b cut m1 captures s n → OutToIn a b m m1 captures s n
    out_to_in n k =
        let same_trace : trace cut (regrow k.grows s) k.turns ≡ trace m (regrow k.grows s) k.turns = h.runs.trace (regrow k.grows s) k.turns in
        record {
          turns = k.turns;
          fewer = k.fewer;
          grows = k.grows;
          begins = subst (λ l. Begins (answers l) k.grows) (same_unmapped s n) k.begins;
          same = elim k.same [
            | inl x ↦ inl (subst (λ l. Begins l (seen (trace m (regrow k.grows s) k.turns))) (same_unmapped s n) (subst (λ l. Begins (unmapped cut m1 s n) (seen l)) same_trace x))
            | inr x ↦ inr (stopped (unmapped cut m1 s n) (unmapped m m1 s n) (trace cut (regrow k.grows s) k.turns) (trace m (regrow k.grows s) k.turns) (same_unmapped s n) same_trace x)
          ];
          frames = λ few.
              subst (λ d. depth1 m1 (map_script m s) n ≤ a * d + b) (h.runs.depth (regrow k.grows s) k.turns)
              (k.frames (subst (λ l. captured l ≤ captures) (sym same_trace) few));
        }

    shows : (n turns : ℕ) → Begins (seen (safe cut captures (trace cut s n))) (unmapped cut m1 s turns) → Begins (seen (safe m captures (trace m s n))) (unmapped m m1 s turns)
    shows n turns k =
        begins_trans (seen (safe m captures (trace m s n))) (seen (safe cut captures (trace m s n))) (unmapped m m1 s turns)
        (begins_seen (safe m captures (trace m s n)) (safe cut captures (trace m s n)) (cut_begins (has_pages m) (has_pages cut) wider (λ k. nat_lt k captures) 0 (trace m s n)))
        (subst (Begins (seen (safe cut captures (trace m s n)))) (same_unmapped s turns)
        (subst (λ l. Begins (seen (safe cut captures l)) (unmapped cut m1 s turns)) (h.runs.trace s n) k))

    under : SameUnder a b cut m1 captures s → SameUnder a b m m1 captures s
    under k = record {
      fits = k.fits;
      mapped_events = λ n. fit_events n (k.mapped_events n);
      out_to_in = λ n. out_to_in n (k.out_to_in n);
      in_to_out = λ n. (let r = k.in_to_out n in record { turns = r.turns; shows = shows n r.turns r.shows });
      direct = λ d n. shows n n (k.direct (h.direct d) n);
    }

  pub cut_same : (a b captures : ℕ) → Same a b cut m1 captures → Same a b m m1 captures
  cut_same a b captures k = record { under = λ s fits. under a b captures s (k.under s (fits_cut a b captures s fits)) }

pub cuts_are_same : CutsAreSame
cuts_are_same m cut m1 a b captures h k = cut_same m cut m1 h a b captures k

pub cuts_are_linked_alike : CutsAreLinkedAlike
cuts_are_linked_alike m cut m1 h k = linked_alike m cut m1 h k
