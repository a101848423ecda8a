-- The parts of a line in their order are the model's line.
use Prim.Native.Nat.{ℕ, ◌<◌}
use mathlib.Core.Path.{◌≡◌, refl, ap}
use mathlib.Core.Option.{Option, none}
use mathlib.Core.Bool.{true, false}
use mathlib.Core.List.{List, [], ◌∷◌, ◌++◌, append_assoc}
use lib.ListN.{get_or}
use Rattle.model.specs.Answer.{Answer, bad, ok, ◌>>=◌, blame}
use Rattle.model.specs.Tables.{Module}
use Rattle.model.specs.Loading.{load}
use Rattle.model.specs.State.{Value}
use Rattle.model.specs.Check.{Shapes, Fault as ModelFault, fault_in, check_module, check}
use Rattle.model.specs.Run.{run_module, run}
use Rattle.model.specs.Turn.{decimal, text_of, space, dash}
use Rattle.model.specs.Replay.{word_load, word_check, word_run, bar, numbers, load_text, check_text, run_text, state_text, replay}
use Rattle.loaded.specs.Holds.{Holds}
use Rattle.loaded.specs.declared.Fault.{Fault}
use Rattle.loaded.specs.declared.Loaded.{Loaded}
use Rattle.std.specs.Prelude.{Result, Ok, Err, ⊤}
use Rattle.loitsupar.specs.Public.{numbered}
use Rattle.state.specs.Order.{Fine, HoldsTypes}
use Rattle.state.specs.Layout.{lay_out}
use Rattle.faithful.proofs.Constants.{Bytes}
use Rattle.faithful.proofs.Loads.{fine}
use Rattle.checker.specs.Answers as Checks
use Rattle.checker.specs.Bounded.{Bounded}
use Rattle.line.specs.Append.{appended}
use Rattle.line.specs.declared.text.Text.{Text}
use Rattle.line.specs.Values.{value_of}
use Rattle.line.proofs.Appending.{added_then, same}
use Rattle.runner.specs.Answers.{told, refused_by, Answers}
use Rattle.runner.specs.declared.Ended.{Ended}
use Rattle.loitsupar.proofs.Answered.{refused, stands}
use Rattle.loitsupar.proofs.Answered as Answered
use Rattle.loitsupar.proofs.Bounds.{bounded}
use Rattle.state_text.specs.Texts.{Says}
use Rattle.case_line.specs.Case.{line_feed}
use Rattle.case_line.specs.Texts.{strike, load_part, check_part, run_part, refused_rest, loaded_rest, refuses}
use Rattle.case_line.proofs.Outcomes.{Refused, Ran, keeps, is_refused, has_ended}

-- ---- Parts from numbers with a space after each

module _ (f : Fault) where
  pub load_text_lem : (word_load ++ (decimal f.number ++ space)) ++ (decimal f.offset ++ space) ≡ load_part f
  unfolding load_part numbers
  load_text_lem = simp append_assoc

  pub check_text_lem : (((strike ++ word_check) ++ (decimal f.number ++ space)) ++ (decimal f.method ++ space)) ++ (decimal f.offset ++ space) ≡ check_part f
  unfolding check_part numbers
  check_text_lem = simp append_assoc

  pub run_text_lem : (s : ℕ) (v : Option Value)
      → ((((((strike ++ word_run) ++ (decimal f.number ++ space)) ++ (decimal f.method ++ space)) ++ (decimal f.offset ++ space)) ++ (decimal s ++ space))
      ++ text_of v) ++ bar
      ≡ run_part f s v
  unfolding run_part numbers
  run_text_lem s v = simp append_assoc

pub refused_text : (f : Fault) → (check_part f ++ run_part f 0 none) ++ (dash ++ line_feed) ≡ refused_rest f
unfolding refused_rest
refused_text f = simp append_assoc

-- ---- The whole line

bar_is : bar ≡ space ++ strike
unfolding bar space strike
bar_is = refl

module _ (tables code arguments : List ℕ) (budget : ℕ) where
  -- a refusal of loading
  refused_line : (f : Fault) → Answered.Refused tables code f → load_part f ++ refused_rest f ≡ replay tables code arguments budget ++ line_feed
  unfolding replay load_part check_part run_part refused_rest load_text check_text run_text check run blame ◌>>=◌ fault_in text_of
  refused_line f r = rw (r.same, r.refuses, bar_is) (simp append_assoc)

  -- a module that is loaded
  loaded_line : (M : Module) → load tables code ≡ ok M
      → load_part (record { number = 0; method = 0; offset = 0 }) ++ loaded_rest M arguments budget ≡ replay tables code arguments budget ++ line_feed
  unfolding replay load_part loaded_rest load_text check run blame ◌>>=◌
  loaded_line M l = rw (l, bar_is) (simp append_assoc)

-- ---- The rest of it, after loading

check_told : (A : Answer ModelFault (List Shapes)) (c : Result ⊤ Fault) → Checks.Answers A c
    → check_text A ≡ numbers ((numbered c).number ∷ (numbered c).method ∷ (numbered c).offset ∷ [])
unfolding check_text numbered Checks.Answers Checks.fault_of
check_told (bad f) c h = rw h.0
check_told (ok l) c h = rw h

module _ (M : Module) (arguments : List ℕ) (budget : ℕ) (c : Result ⊤ Fault) (checks : Checks.Answers (check_module M) c) (e : Ended) where
  refused_rest_lem : Refused M arguments budget e
      → (check_part (numbered c) ++ run_part e.end e.steps (value_of e.value)) ++ (dash ++ line_feed) ≡ loaded_rest M arguments budget
  unfolding loaded_rest check_part run_part run_text refused_by text_of
  refused_rest_lem r = rw (check_told (check_module M) c checks, r.refuses_run, r.exact, bar_is) (simp append_assoc)

  ended_rest : (r : Ran M arguments budget e)
      → ((check_part (numbered c) ++ run_part e.end e.steps (value_of e.value)) ++ state_text M r.end_is.state) ++ line_feed ≡ loaded_rest M arguments budget
  unfolding loaded_rest check_part run_part run_text told
  ended_rest r = rw (check_told (check_module M) c checks, r.runs, r.tells.value, r.tells.exact, bar_is) (simp append_assoc)

  module _ (runs : Answers (run_module M arguments budget) e) (w x y : Text) (checked : x ≡ appended w (check_part (numbered c)))
      (ran : y ≡ appended x (run_part e.end e.steps (value_of e.value))) where
    -- the run is refused: no state
    pub refused_run : refuses e.end.number ≡ true → (z : Text) → z ≡ appended y (dash ++ line_feed) → z ≡ appended w (loaded_rest M arguments budget)
    refused_run b z a =
        same w z _ _ (added_then w y z _ _ (added_then w x y _ _ checked ran) a) (refused_rest_lem (is_refused M arguments budget e runs b))

    -- the run ended: the state that it ended with
    pub ended_run : refuses e.end.number ≡ false → Fine M → (code : List ℕ) (L : Loaded) → Holds M code L
        → ((i : ℕ) → get_or arguments i 0 < 18446744073709551616) → {types statics : List ℕ} → HoldsTypes M types statics
        → (z : Text) → Says L.methods L.fields types e.state y z → (v : Text) → v ≡ appended z line_feed
        → v ≡ appended w (loaded_rest M arguments budget)
    unfolding told
    ended_run b fin code L hold wide {types} {statics} typed z t v a =
        let r = has_ended M arguments budget e runs b in
        let q : e.state ≡ lay_out r.end_is.state = ap (λ (x : Ended). x.state) r.tells.exact in
        let k = keeps M arguments budget fin code L hold wide r.end_is r.runs in
        let s = t.model M code L statics r.end_is.state hold refl refl fin typed k q in
        same w v _ _ (added_then w z v _ _ (added_then w y z _ _ (added_then w x y _ _ checked ran) s) a) (ended_rest r)

-- ---- The whole line from its two halves

module _ (tables code arguments : List ℕ) (budget : ℕ) (r : Result ⊤ Fault) (L : Loaded) (w x y : Text) (first : x ≡ appended w (load_part (numbered r))) where
  pub refused_load : (f : Fault) → r ≡ Err f → Answered.Says tables code (Err f) L → y ≡ appended x (refused_rest f)
      → y ≡ appended w (replay tables code arguments budget ++ line_feed)
  unfolding numbered
  refused_load f e says a = same w y _ _ (added_then w x y _ _ (rw e at first) a) (refused_line tables code arguments budget f (refused L f says))

  pub loaded : r ≡ Ok tt → Answered.Says tables code (Ok tt) L → Bytes code
      → ((M : Module) → Fine M → Bounded M → Holds M code L → y ≡ appended x (loaded_rest M arguments budget))
      → y ≡ appended w (replay tables code arguments budget ++ line_feed)
  unfolding numbered
  loaded e says b a =
      let t = stands L says in
      let M = t.module_is in
      same w y _ _ (added_then w x y _ _ (rw e at first) (a M (fine tables code M b t.loads) (bounded tables code M t.loads) t.holds))
      (loaded_line tables code arguments budget M t.loads)
