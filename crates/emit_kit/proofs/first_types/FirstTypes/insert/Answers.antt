use Rattle.std.proofs.Common.{◌≡◌, ℕ, List, None, [], ◌∷◌, ◌++◌, map, OnOk, ap, sym, ◌∙◌, subst}
use Rattle.std.specs.Prelude.{bytes_eq}
use Rattle.std.proofs.lemmas.List.{map-append}
use Rattle.indexmap.specs.IndexMap.{get}
use Rattle.indexmap.proofs.CallerLemmas.{insert_entry-new}
use Rattle.emit_kit.specs.FirstTypes.{index_at}
use Rattle.emit_kit.proofs.Found.{found_in, plain}
use Rattle.emit_kit.proofs.first_types.FirstTypes.insert.Goals as goal
use Rattle.emit_kit.proofs.first_types.FirstTypes.insert.Goals.{in-Ok, in-Err}

pub returns-clause-ok : goal.returns-clause-ok
returns-clause-ok c =
    let m = c.self.inside.indices in
    let key = c.args.key in
    let entry : List ℕ × ℕ = (key.items, c.args.index) in
    let absent : get (λ a b. bytes_eq a.items b.items) m key ≡ None = found_in key.items m.entries ∙ ap (index_at key.items) c.self.view_is ∙ c.requires in
    elim c.match-insert.branch [
      | in-Ok w ↦ subst (λ r. OnOk r (map plain c.insert.new.self.entries ≡ c.args.self.now ++ entry ∷ [])) (sym w.result-is)
          (ap (map plain) (w.in-Ok.ensures.entries ∙ insert_entry-new (λ a b. bytes_eq a.items b.items) m key c.args.index absent) ∙ map-append plain m.entries ((key, c.args.index) ∷ []) ∙ ap (λ l. l ++ entry ∷ []) c.self.view_is)
      | in-Err w ↦ subst (λ r. OnOk r (map plain c.insert.new.self.entries ≡ c.args.self.now ++ entry ∷ [])) (sym w.result-is) tt
    ]
