-- `plan` meets its contract: the corners, and then the lists of one cycle cut in two or of two made one. Assumes nothing.
use Prim.Native.Nat.{ℕ}
use mathlib.Core.Path.{◌≡◌, ap, ◌∙◌}
use mathlib.Core.List.{List}
use Rattle.rows_split.specs.declared.Place.{Place}
use Rattle.rows_split.specs.Parts.{place_of}
use Rattle.kind_cut_chord.specs.Chords.{vertex_in}
use Rattle.kind_cut_chord.proofs.Plans.{place_asks, vertex_asks, same_cycle, parting, one_room, near_built, far_built, bridging, two_room, joint_built}
use Rattle.kind_cut_chord.proofs.plan.Goals as goal

-- v is the vertex of corner k of the cycle that stands at p
vertex_at : (ids starts ends : List ℕ) (n : ℕ) (steps : List ℕ) (k : ℕ) {p q : Place} {v : ℕ} → v ≡ vertex_in ids starts ends n steps p k → p ≡ q
    → v ≡ vertex_in ids starts ends n steps q k
vertex_at ids starts ends n steps k e z = e ∙ ap (λ (p : Place). vertex_in ids starts ends n steps p k) z

pub place_of-p-requires : goal.place_of-p-requires
place_of-p-requires c = let x = c.requires.chorded in let whole = place_asks x x.from in record {
  cycles_len = whole.0;
  c_bound = whole.1.0;
  cycles_bound = whole.1.1;
}

pub corner_vertex-v-requires : goal.corner_vertex-v-requires
corner_vertex-v-requires c = let x = c.requires.chorded in let whole = vertex_asks x c.place_of-p.ensures x.from in record {
  ruled = whole.0;
  ruled_2 = whole.1.0;
  steps_len = whole.1.1.0;
  m_bound = whole.1.1.1.0;
  s_bound = whole.1.1.1.1;
}

-- ---- one cycle
pub corner_vertex-w-requires : goal.corner_vertex-w-requires
corner_vertex-w-requires c =
    let x = c.requires.chorded in
    let whole = vertex_asks x c.place_of-p.ensures (same_cycle x c.if-c1-c2.true) in record {
      ruled = whole.0;
      ruled_2 = whole.1.0;
      steps_len = whole.1.1.0;
      m_bound = whole.1.1.1.0;
      s_bound = whole.1.1.1.1;
    }

pub halves-u-requires : goal.halves-u-requires
halves-u-requires c =
    let g = c.requires in
    record {
      split_parting = parting g.chorded c.if-c1-c2.true c.place_of-p.ensures;
      room_for_both = one_room g.chorded c.if-c1-c2.true g.room_for_both;
    }

pub returns-then-c1-c2 : goal.returns-then-c1-c2
returns-then-c1-c2 c =
    let a = c.args in
    let x = c.requires.chorded in record {
      v_value = vertex_at a.ids.now a.starts.now a.ends.now a.n a.steps.now a.s1 c.corner_vertex-v.ensures c.place_of-p.ensures;
      w_value = vertex_at a.ids.now a.starts.now a.ends.now a.n a.steps.now a.s2 c.corner_vertex-w.ensures
          (c.place_of-p.ensures ∙ ap (place_of a.cycles.now a.spans) c.if-c1-c2.true);
      built = near_built x c.if-c1-c2.true c.halves-u.ensures.built;
      built_2 = far_built x c.if-c1-c2.true c.halves-u.ensures.built_2;
    }

-- ---- two cycles
pub place_of-q-requires : goal.place_of-q-requires
place_of-q-requires c = let x = c.requires.chorded in let whole = place_asks x x.to in record {
  cycles_len = whole.0;
  c_bound = whole.1.0;
  cycles_bound = whole.1.1;
}

pub corner_vertex-w-requires-2 : goal.corner_vertex-w-requires-2
corner_vertex-w-requires-2 c = let x = c.requires.chorded in let whole = vertex_asks x c.place_of-q.ensures x.to in record {
  ruled = whole.0;
  ruled_2 = whole.1.0;
  steps_len = whole.1.1.0;
  m_bound = whole.1.1.1.0;
  s_bound = whole.1.1.1.1;
}

pub bridge_list-old-requires : goal.bridge_list-old-requires
bridge_list-old-requires c =
    let g = c.requires in
    record {
      bridging = bridging g.chorded c.if-c1-c2.false c.place_of-p.ensures c.place_of-q.ensures;
      room_for = two_room g.chorded c.if-c1-c2.false g.room_for_both;
    }

pub returns : goal.returns
returns c =
    let a = c.args in
    let joint = joint_built c.requires.chorded c.if-c1-c2.false c.bridge_list-old.ensures in record {
      v_value = vertex_at a.ids.now a.starts.now a.ends.now a.n a.steps.now a.s1 c.corner_vertex-v.ensures c.place_of-p.ensures;
      w_value = vertex_at a.ids.now a.starts.now a.ends.now a.n a.steps.now a.s2 c.corner_vertex-w-2.ensures c.place_of-q.ensures;
      built = joint.0;
      built_2 = joint.1;
    }
