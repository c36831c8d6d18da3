-- The events of one more mark.
use Rattle.std.proofs.Common.{◌≡◌, List, [], ◌∷◌, ◌++◌, map, ap, sym, ◌∙◌}
use Rattle.std.proofs.lemmas.List.{map-append}
use Rattle.host_kit.proofs.Marks.{events-append}
use Rattle.host_kit.specs.Trace.{events}
use Rattle.host_kit.specs.declared.event.Event.{Event}
use Rattle.run_kit.specs.declared.marks.Mark.{Mark}
use Rattle.run_kit.specs.Marks.{mark_of}

pub more_seen : (seen new : List Event) (ms : List Mark) (m : Mark) → seen ≡ events (map mark_of ms) → new ≡ seen ++ events (mark_of m ∷ []) → new ≡ events (map mark_of (ms ++ m ∷ []))
more_seen seen new ms m e kept =
    kept
    ∙ (ap (λ s. s ++ events (mark_of m ∷ [])) e
    ∙ sym (ap events (map-append mark_of ms (m ∷ [])) ∙ events-append (map mark_of ms) (mark_of m ∷ [])))
