use Rattle.std.proofs.Common.{◌≡◌, [], ◌∷◌, ◌++◌, length, Some, None, IfOk, OnOk, ap, sym, ◌∙◌, subst}
use Rattle.wasm_ast.specs.Types.{type_key}
use Rattle.emit_kit.specs.Built.{AddsType, Built}
use Rattle.emit_kit.specs.FirstTypes.{index_at}
use Rattle.emit_kit.proofs.Adding.{adds_known, adds_pushed, tells_pushed}
use Rattle.emit_kit.proofs.emit.Emit.add_type.Goals as goal

pub invariant_of-self : goal.invariant_of-self
invariant_of-self c =
    let key = c.as_slice.ensures.value ∙ c.in_ok-key.ensures in
    let entries = c.self.inside.first_types in
    let b : Built = (c.self.inside.part, c.self.inside.fns) in
    let absent : index_at (type_key c.args.t) entries ≡ None = ap (λ k. index_at k entries) (sym key) ∙ sym c.get.ensures ∙ c.in-None.is in
    let noted = subst (λ k. OnOk c.push_type.result (c.push_type.new.self ≡ entries ++ (k, length c.self.inside.part.types) ∷ [])) c.in_ok-key.ensures c.push_type.ensures.noted in
    record {
      types = tells_pushed b c.args.t entries c.self.invariant.types c.push_type.result c.push_type.new.types c.push_type.new.self absent c.push_type.ensures.types noted c.push_type.ensures.err_types c.push_type.ensures.err_noted;
      funcs = c.self.invariant.funcs;
      globals = c.self.invariant.globals;
    }

pub returns-in-Some-clause-added : goal.returns-in-Some-clause-added
returns-in-Some-clause-added c =
    let key = c.as_slice.ensures.value ∙ c.in_ok-key.ensures in
    let entries = c.self.inside.first_types in
    let b : Built = (c.self.inside.part, c.self.inside.fns) in
    let found : index_at (type_key c.args.t) entries ≡ Some c.in-Some.index = ap (λ k. index_at k entries) (sym key) ∙ sym c.get.ensures ∙ c.in-Some.is in
    subst (λ m. AddsType m c.args.t c.in-Some.index m) c.self.view_is (adds_known b c.args.t entries c.self.invariant.types c.in-Some.index found)

pub returns-in-None-clause-added : goal.returns-in-None-clause-added
returns-in-None-clause-added c =
    let key = c.as_slice.ensures.value ∙ c.in_ok-key.ensures in
    let entries = c.self.inside.first_types in
    let b : Built = (c.self.inside.part, c.self.inside.fns) in
    let absent : index_at (type_key c.args.t) entries ≡ None = ap (λ k. index_at k entries) (sym key) ∙ sym c.get.ensures ∙ c.in-None.is in
    let new : Built = (record c.self.inside.part { types = c.push_type.new.types }, c.self.inside.fns) in
    subst (λ m. IfOk c.push_type.result (λ index. AddsType m c.args.t index new)) c.self.view_is
    (adds_pushed b c.args.t entries c.self.invariant.types absent c.push_type.result c.push_type.new.types c.push_type.ensures.index c.push_type.ensures.types)
