use Rattle.std.proofs.Common.{◌≡◌, true, ◌&&◌, ap, ◌∙◌}
use Rattle.std.specs.List.{list_all}
use Rattle.meaning_core1.specs.Store.{State1}
use Rattle.meaning_core1.specs.Instances.{element_fits, segment_fits}
use Rattle.run_core1.proofs.Fitting.{segments_stay, rest_holds}
use Rattle.run_core1.proofs.state.State.write_all_segments.Goals as goal

pub write_segments-requires-clause-inside : goal.write_segments-requires-clause-inside
write_segments-requires-clause-inside c =
    let s = c.args.self.now.store in
    let elems = c.as_slice.result.now in
    let datas = c.as_slice-2.result.now in
    let all : (list_all (element_fits s) elems && list_all (segment_fits s) datas) ≡ true = cc in
    ap (λ (n : State1). list_all (segment_fits n.store) datas) c.write_elements.ensures ∙ (segments_stay elems s datas ∙ rest_holds (list_all (element_fits s) elems) (list_all (segment_fits s) datas) all)
