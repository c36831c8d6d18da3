-- A list of replies without the first one of a function.
use Rattle.std.proofs.Common.{◌≡◌, ℕ, List, ◌∷◌, map, set, slice_get, Some, Option, option_map, sym, ap, ◌∙◌, Bor}
use Rattle.std.proofs.lemmas.List.{map-set}
use Rattle.host_kit.specs.declared.script.Reply.{Reply}
use Rattle.run_kit.specs.Replies.{without_first, without_first_of}

pub replaced : (left : List (Bor (List Reply))) (x : ℕ) (all : Option (Bor (List Reply))) (these rest : Bor (List Reply)) (first : Reply)
    → option_map (λ r. r.now) all ≡ slice_get (map (λ r. r.now) left) x
    → all ≡ Some these
    → these.now ≡ first ∷ rest.now
    → map (λ r. r.now) (set left x rest) ≡ without_first x (map (λ r. r.now) left)
replaced left x all these rest first e there cut =
    map-set (λ r. r.now) left x rest
    ∙ sym (ap (λ o. without_first_of x o (map (λ r. r.now) left)) (sym e ∙ (ap (option_map (λ (r : Bor (List Reply)). r.now)) there ∙ ap (λ rs. Some rs) cut)))
