-- What the writers of types and of the parts of a module append is spelled by their forms.
use Rattle.std.proofs.Common.{◌≡◌, ℕ, length, Bool, true, false, Some, None, List, [], ◌∷◌, ◌++◌, refl, sym, ap, subst}
use Rattle.core1_ast.specs.declared.module.ty.Ty1.{Ty1}
use Rattle.core1_ast.specs.declared.module.ty.FuncType1.{FuncType1}
use Rattle.core1_ast.specs.declared.module.ty.Limits1.{Limits1}
use Rattle.core1_ast.specs.Spaces.{GlobalType}
use Rattle.core1_ast.specs.declared.module.parts.Import1.{Import1}
use Rattle.core1_ast.specs.declared.module.parts.ImportDesc1.TheVariants as imports
use Rattle.core1_ast.specs.declared.module.parts.Global1.{Global1}
use Rattle.core1_ast.specs.declared.module.parts.Export1.{Export1}
use Rattle.core1_ast.specs.declared.module.parts.ExportDesc1.{ExportDesc1}
use Rattle.core1_ast.specs.declared.module.parts.ExportDesc1.TheVariants as exports
use Rattle.core1_ast.specs.declared.module.code.Body1.{Body1}
use Rattle.core1_ast.specs.declared.module.parts.Element1.{Element1}
use Rattle.core1_ast.specs.declared.module.parts.Segment1.{Segment1}
use Rattle.grammar_kit.specs.Form.{Form, always, byte, raw, ◌>>=◌, vector}
use Rattle.grammar_kit.specs.Sequences.{sized}
use Rattle.wasm_frame.specs.Name.{name, byte_vector}
use Rattle.core1_bytes.specs.declared.body.LocalGroup1.{LocalGroup1}
use Rattle.wasm_frame.specs.Leb128.{u32}
use Rattle.core1_bytes.specs.Types.{value_type, func_type, limits, table_type, mutability, global_type}
use Rattle.core1_bytes.specs.Bodies.{expr, local_group, body}
use Rattle.core1_bytes.specs.Parts.{import_desc, import, global, export_of, export_desc, export, element, segment}
use Rattle.core1_bytes.specs.Appends.{Appends, export_index, Exports}
use Rattle.core1_bytes.proofs.Appending.{appends_to, appends_bind, appends_map, mapped, found}
use Rattle.core1_bytes.proofs.Nested.{coded, coded_alone}

true_text : mutability.text (0x01 ∷ []) true
unfolding mutability
true_text = (0x01, 0x01 ∷ [], [], refl, refl, (refl, refl))

false_text : mutability.text (0x00 ∷ []) false
unfolding mutability
false_text = (0x00, 0x00 ∷ [], [], refl, refl, (refl, refl))

pub mutable_appends : (a b : List ℕ) → Appends byte a b 0x01 → Appends mutability a b true
mutable_appends a b p = coded_alone (λ b. mutability.text b true) 0x01 a b true_text p

pub immutable_appends : (a b : List ℕ) → Appends byte a b 0x00 → Appends mutability a b false
immutable_appends a b p = coded_alone (λ b. mutability.text b false) 0x00 a b false_text p

pub global_type_appends : (a b c : List ℕ) (t : Ty1) (m : Bool) → Appends value_type a b t → Appends mutability b c m → Appends global_type a c (record { type = t; mutable = m })
unfolding global_type
global_type_appends a b c t m p q =
    appends_bind value_type (λ t. mutability >>= λ m. always (record { type = t; mutable = m })) a b c t (record { type = t; mutable = m }) p
    (appends_map mutability (λ m. record { type = t; mutable = m }) b c m q)

both_types : Form FuncType1
both_types = vector u32 value_type >>= λ params. vector u32 value_type >>= λ results. always (record { params = params; results = results })

func_text : (t : FuncType1) (b : List ℕ) → both_types.text b t → func_type.text (0x60 ∷ b) t
unfolding func_type both_types
func_text t b h = (0x60, 0x60 ∷ [], b, refl, refl, h)

pub func_type_appends : (a b c d : List ℕ) (t : FuncType1) (params results : List Ty1) → params ≡ t.params → results ≡ t.results → Appends byte a b 0x60 → Appends (vector u32 value_type) b c params → Appends (vector u32 value_type) c d results → Appends func_type a d t
unfolding both_types
func_type_appends a b c d t params results e f p q r =
    let first : Appends (vector u32 value_type) b c t.params = subst (λ ts. Appends (vector u32 value_type) b c ts) e q in
    let second : Appends (vector u32 value_type) c d t.results = subst (λ ts. Appends (vector u32 value_type) c d ts) f r in
    coded (λ b. both_types.text b t) (λ b. func_type.text b t) 0x60 a b d (func_text t) p
    (appends_bind {Y = FuncType1} (vector u32 value_type) (λ params. vector u32 value_type >>= λ results. always (record { params = params; results = results })) b c d t.params t first
    (appends_map {Y = FuncType1} (vector u32 value_type) (λ results. record { params = t.params; results = results }) c d t.results second))

least : Form Limits1
least = u32 >>= λ n. always (record { min = n; max = None })

bounded : Form Limits1
bounded = u32 >>= λ n. u32 >>= λ m. always (record { min = n; max = Some m })

least_text : (l : Limits1) (b : List ℕ) → least.text b l → limits.text (0x00 ∷ b) l
unfolding limits least
least_text l b h = (0x00, 0x00 ∷ [], b, refl, refl, h)

bounded_text : (l : Limits1) (b : List ℕ) → bounded.text b l → limits.text (0x01 ∷ b) l
unfolding limits bounded
bounded_text l b h = (0x01, 0x01 ∷ [], b, refl, refl, h)

pub least_appends : (a b c : List ℕ) (l : Limits1) → l.max ≡ None → Appends byte a b 0x00 → Appends u32 b c l.min → Appends limits a c l
unfolding least
least_appends a b c l none p q =
    let made : Limits1 = record { min = l.min; max = None } in
    let whole : made ≡ l = ap (λ m. record l { max = m }) (sym none) in
    subst (λ l. Appends limits a c l) whole
    (coded (λ b. least.text b made) (λ b. limits.text b made) 0x00 a b c (least_text made) p (appends_map {Y = Limits1} u32 (λ n. record { min = n; max = None }) b c l.min q))

pub bounded_appends : (a b c d : List ℕ) (l : Limits1) (m : ℕ) → l.max ≡ Some m → Appends byte a b 0x01 → Appends u32 b c l.min → Appends u32 c d m → Appends limits a d l
unfolding bounded
bounded_appends a b c d l m some p q r =
    let made : Limits1 = record { min = l.min; max = Some m } in
    let whole : made ≡ l = ap (λ m. record l { max = m }) (sym some) in
    subst (λ l. Appends limits a d l) whole
    (coded (λ b. bounded.text b made) (λ b. limits.text b made) 0x01 a b d (bounded_text made) p
    (appends_bind {Y = Limits1} u32 (λ n. u32 >>= λ m. always (record { min = n; max = Some m })) b c d l.min made q
    (appends_map {Y = Limits1} u32 (λ m. record { min = l.min; max = Some m }) c d m r)))

table_text : (l : Limits1) (b : List ℕ) → limits.text b l → table_type.text (0x70 ∷ b) l
unfolding table_type
table_text l b h = (0x70, 0x70 ∷ [], b, refl, refl, h)

pub table_type_appends : (a b c : List ℕ) (l : Limits1) → Appends byte a b 0x70 → Appends limits b c l → Appends table_type a c l
table_type_appends a b c l p q = coded (λ b. limits.text b l) (λ b. table_type.text b l) 0x70 a b c (table_text l) p q

pub bytes_appends : (a b c bytes : List ℕ) → Appends u32 a b (length bytes) → c ≡ b ++ bytes → Appends byte_vector a c bytes
bytes_appends a b c bytes p e = appends_bind u32 raw a b c (length bytes) bytes p (record { bytes = bytes; appended = e; spells = (refl, refl) })

desc_func : (x : ℕ) (b : List ℕ) → u32.text b x → import_desc.text (0x00 ∷ b) (imports.Func x)
unfolding import_desc
desc_func x b h = (0x00, 0x00 ∷ [], b, refl, refl, mapped u32 (λ x. imports.Func x) b x h)

desc_table : (l : Limits1) (b : List ℕ) → table_type.text b l → import_desc.text (0x01 ∷ b) (imports.Table l)
unfolding import_desc
desc_table l b h = (0x01, 0x01 ∷ [], b, refl, refl, mapped table_type (λ l. imports.Table l) b l h)

desc_memory : (l : Limits1) (b : List ℕ) → limits.text b l → import_desc.text (0x02 ∷ b) (imports.Memory l)
unfolding import_desc
desc_memory l b h = (0x02, 0x02 ∷ [], b, refl, refl, mapped limits (λ l. imports.Memory l) b l h)

desc_global : (g : GlobalType) (b : List ℕ) → global_type.text b g → import_desc.text (0x03 ∷ b) (imports.Global g.type g.mutable)
unfolding import_desc
desc_global g b h = (0x03, 0x03 ∷ [], b, refl, refl, mapped global_type (λ g. imports.Global g.type g.mutable) b g h)

pub import_func : (a b c : List ℕ) (x : ℕ) → Appends byte a b 0x00 → Appends u32 b c x → Appends import_desc a c (imports.Func x)
import_func a b c x p q = coded (λ b. u32.text b x) (λ b. import_desc.text b (imports.Func x)) 0x00 a b c (desc_func x) p q

pub import_table : (a b c : List ℕ) (l : Limits1) → Appends byte a b 0x01 → Appends table_type b c l → Appends import_desc a c (imports.Table l)
import_table a b c l p q = coded (λ b. table_type.text b l) (λ b. import_desc.text b (imports.Table l)) 0x01 a b c (desc_table l) p q

pub import_memory : (a b c : List ℕ) (l : Limits1) → Appends byte a b 0x02 → Appends limits b c l → Appends import_desc a c (imports.Memory l)
import_memory a b c l p q = coded (λ b. limits.text b l) (λ b. import_desc.text b (imports.Memory l)) 0x02 a b c (desc_memory l) p q

pub import_global : (a b c : List ℕ) (t : Ty1) (m : Bool) → Appends byte a b 0x03 → Appends global_type b c (record { type = t; mutable = m }) → Appends import_desc a c (imports.Global t m)
import_global a b c t m p q =
    let g : GlobalType = record { type = t; mutable = m } in
    coded (λ b. global_type.text b g) (λ b. import_desc.text b (imports.Global t m)) 0x03 a b c (desc_global g) p q

pub import_appends : (a b c d : List ℕ) (i : Import1) (s t : List ℕ) → s ≡ i.«module» → t ≡ i.name → Appends name a b s → Appends name b c t → Appends import_desc c d i.desc → Appends import a d i
unfolding import
import_appends a b c d i s t e f p q r =
    let first : Appends name a b i.«module» = subst (λ n. Appends name a b n) e p in
    let second : Appends name b c i.name = subst (λ n. Appends name b c n) f q in
    appends_bind {Y = Import1} name (λ m. name >>= λ n. import_desc >>= λ d. always (record { «module» = m; name = n; desc = d })) a b d i.«module» i first
    (appends_bind {Y = Import1} name (λ n. import_desc >>= λ d. always (record { «module» = i.«module»; name = n; desc = d })) b c d i.name i second
    (appends_map {Y = Import1} import_desc (λ d. record { «module» = i.«module»; name = i.name; desc = d }) c d i.desc r))

pub global_appends : (a b c : List ℕ) (g : Global1) → Appends global_type a b (record { type = g.ty; mutable = g.mutable }) → Appends expr b c g.init → Appends global a c g
unfolding global
global_appends a b c g p q =
    appends_bind {Y = Global1} global_type (λ t. expr >>= λ code. always (record { ty = t.type; mutable = t.mutable; init = code })) a b c (record { type = g.ty; mutable = g.mutable }) g p
    (appends_map {Y = Global1} expr (λ code. record { ty = g.ty; mutable = g.mutable; init = code }) b c g.init q)

pub exports_func : (x : ℕ) → Exports (exports.Func x) 0x00
unfolding export_desc export_of
exports_func x = record { spells = λ b h. (0x00, 0x00 ∷ [], b, refl, refl, found u32 (export_of 0x00) b x _ refl h) }

pub exports_table : (x : ℕ) → Exports (exports.Table x) 0x01
unfolding export_desc export_of
exports_table x = record { spells = λ b h. (0x01, 0x01 ∷ [], b, refl, refl, found u32 (export_of 0x01) b x _ refl h) }

pub exports_memory : (x : ℕ) → Exports (exports.Memory x) 0x02
unfolding export_desc export_of
exports_memory x = record { spells = λ b h. (0x02, 0x02 ∷ [], b, refl, refl, found u32 (export_of 0x02) b x _ refl h) }

pub exports_global : (x : ℕ) → Exports (exports.Global x) 0x03
unfolding export_desc export_of
exports_global x = record { spells = λ b h. (0x03, 0x03 ∷ [], b, refl, refl, found u32 (export_of 0x03) b x _ refl h) }

pub ruleset export_rules = (exports_func, exports_table, exports_memory, exports_global)

pub export_desc_appends : (a b c : List ℕ) (d : ExportDesc1) (kind index : ℕ) → Exports d kind → index ≡ export_index d → Appends byte a b kind → Appends u32 b c index → Appends export_desc a c d
export_desc_appends a b c d kind index begins f p q =
    coded (λ b. u32.text b (export_index d)) (λ b. export_desc.text b d) kind a b c begins.spells p (subst (λ x. Appends u32 b c x) f q)

pub export_appends : (a b c : List ℕ) (x : Export1) (t : List ℕ) → t ≡ x.name → Appends name a b t → Appends export_desc b c x.desc → Appends export a c x
unfolding export
export_appends a b c x t e p q =
    let first : Appends name a b x.name = subst (λ n. Appends name a b n) e p in
    appends_bind {Y = Export1} name (λ n. export_desc >>= λ d. always (record { name = n; desc = d })) a b c x.name x first
    (appends_map {Y = Export1} export_desc (λ d. record { name = x.name; desc = d }) b c x.desc q)

pub element_appends : (a b c d : List ℕ) (x : Element1) (funcs : List ℕ) → funcs ≡ x.items → Appends u32 a b x.table → Appends expr b c x.offset → Appends (vector u32 u32) c d funcs → Appends element a d x
unfolding element
element_appends a b c d x funcs e p q r =
    let items : Appends (vector u32 u32) c d x.items = subst (λ (fs : List ℕ). Appends (vector u32 u32) c d fs) e r in
    appends_bind {Y = Element1} u32 (λ t. expr >>= λ code. vector u32 u32 >>= λ funcs. always (record { table = t; offset = code; items = funcs })) a b d x.table x p
    (appends_bind {Y = Element1} expr (λ code. vector u32 u32 >>= λ funcs. always (record { table = x.table; offset = code; items = funcs })) b c d x.offset x q
    (appends_map {Y = Element1} (vector u32 u32) (λ funcs. record { table = x.table; offset = x.offset; items = funcs }) c d x.items items))

pub segment_appends : (a b c d : List ℕ) (x : Segment1) → Appends u32 a b x.memory → Appends expr b c x.offset → Appends byte_vector c d x.bytes → Appends segment a d x
unfolding segment
segment_appends a b c d x p q r =
    appends_bind {Y = Segment1} u32 (λ m. expr >>= λ code. byte_vector >>= λ bytes. always (record { memory = m; offset = code; bytes = bytes })) a b d x.memory x p
    (appends_bind {Y = Segment1} expr (λ code. byte_vector >>= λ bytes. always (record { memory = x.memory; offset = code; bytes = bytes })) b c d x.offset x q
    (appends_map {Y = Segment1} byte_vector (λ bytes. record { memory = x.memory; offset = x.offset; bytes = bytes }) c d x.bytes r))

pub group_appends : (a b c : List ℕ) (g : LocalGroup1) → Appends u32 a b g.count → Appends value_type b c g.ty → Appends local_group a c g
unfolding local_group
group_appends a b c g p q =
    appends_bind {Y = LocalGroup1} u32 (λ n. value_type >>= λ t. always (record { count = n; ty = t })) a b c g.count g p
    (appends_map {Y = LocalGroup1} value_type (λ t. record { count = g.count; ty = t }) b c g.ty q)

-- a text behind the count of its bytes is a body where it spells one
pub body_appends : (a b text : List ℕ) (source : Body1) → body.text text source → Appends byte_vector a b text → Appends (sized u32 body) a b source
body_appends a b text source h p = appends_to (λ t. byte_vector.text t text) (λ t. (sized u32 body).text t source) a b (λ t k. (text, k, h)) p
