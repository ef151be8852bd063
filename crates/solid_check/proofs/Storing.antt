-- Laws of the storing of faces with planes, in the words of the code.
use Rattle.std.specs.Prelude.{◌≡◌, refl, List, [], ◌∷◌, ◌++◌, map, ℕ, ◌+◌, ◌*◌, ◌≤◌, ◌<◌, length, drop, get_or, Float, Ok, Err}
use Rattle.std.proofs.Common.{sym, ap, ◌∙◌, append-nil, append_assoc, arith, length-append, length-take, length-drop}
use Rattle.std.proofs.lemmas.List.{length-map}
use Rattle.std.proofs.lemmas.List.Edits.{sets}
use Rattle.std.proofs.Math.Seq.{length-sets}
use Rattle.refusal.specs.declared.Refusal.{Refusal}
use Rattle.space.specs.declared.Point3.{Point3}
use Rattle.space.specs.declared.Plane.{Plane}
use Rattle.space.specs.declared.Precision.{Precision}
use Rattle.space.specs.Shapes.{Face}
use Rattle.room.specs.Rooms.{counts_at, face_floats, cell_floats}
use Rattle.room.specs.Laws.{floats_more, corners_snoc, corners_none}
use Rattle.solids.specs.Frames.{point_of, plane_for, faces_at, Placing}
use Rattle.solids.specs.Faces.{along_start, along_next, along_room, along_face, along_end}
use Rattle.solid_check.specs.Check.{framed}
use Rattle.solid_check.proofs.Laws.{framed_go, framed_stop}
use Rattle.solid_check.specs.Storing.{Putting}

pub putting_start : (t : Precision) (ps : List Point3) (l counts : List ℕ) (n : ℕ) (s : List Float) → Placing (counts_at counts 0 n) 0 (length l) → Putting t ps l counts n s s 0 0 0
unfolding cell_floats
putting_start t ps l counts n s h = record { along = along_start l counts n h; done = []; many = refl; wide = corners_none; place = omega arith; is = refl; rest = refl }

module _ {t : Precision} {ps : List Point3} {l counts : List ℕ} {n : ℕ} {s₀ s : List Float} {at o j : ℕ} (I : Putting t ps l counts n s₀ s at o j) (room : n ≤ length counts) where
  pub putting_long : length s ≡ length s₀
  putting_long = ap length I.is ∙ length-sets s₀ 0 (cell_floats I.done)

  pub putting_room : j < n → 13 * n + 3 * length l ≤ length s₀ → (at + get_or counts j 0 ≤ length l) × (o + 13 + 3 * get_or counts j 0 ≤ length s)
  putting_room h k =
      let r = along_room I.along room h in
      (r, omega (arith, r, I.place, putting_long))

  pub putting_go : (w : Plane) {s' : List Float} → j < n → plane_for t ps (counts_at l at (get_or counts j 0)) ≡ Ok w →
      s' ≡ sets s o (face_floats (record { plane = w; points = map (point_of ps) (counts_at l at (get_or counts j 0)) })) →
      Putting t ps l counts n s₀ s' (at + get_or counts j 0) (o + (13 + 3 * get_or counts j 0)) (j + 1)
  putting_go w {s'} h e g =
      let f : Face = record { plane = w; points = map (point_of ps) (counts_at l at (get_or counts j 0)) } in
      let r = along_room I.along room h in
      let c : length (map (point_of ps) (counts_at l at (get_or counts j 0))) ≡ get_or counts j 0 =
      length-map (counts_at l at (get_or counts j 0)) (point_of ps) ∙ length-take (get_or counts j 0) (drop at l) ∙ omega (arith, r, length-drop at l) in
      record {
        along = along_next I.along room h;
        done = I.done ++ (f ∷ []);
        many = length-append I.done (f ∷ []) ∙ omega (arith, I.many);
        wide = corners_snoc I.done f ∙ omega (arith, I.wide, c);
        place = omega (arith, I.place);
        is = g ∙ ap (λ z. sets z o (face_floats f)) I.is ∙ floats_more s₀ 0 I.done f o (omega (arith, I.place, I.many, I.wide));
        rest =
            append_assoc I.done (f ∷ []) (framed t ps (faces_at l (at + get_or counts j 0) (drop (j + 1) (counts_at counts 0 n))))
            ∙ ap (λ z. I.done ++ z) (sym (framed_go t ps (counts_at l at (get_or counts j 0)) (faces_at l (at + get_or counts j 0) (drop (j + 1) (counts_at counts 0 n))) w e))
            ∙ ap (λ z. I.done ++ framed t ps z) (sym (along_face I.along room h)) ∙ I.rest;
      }

  last : framed t ps (faces_at l at (drop j (counts_at counts 0 n))) ≡ [] → s ≡ sets s₀ 0 (cell_floats (framed t ps (faces_at l 0 (counts_at counts 0 n))))
  last e = I.is ∙ ap (λ z. sets s₀ 0 (cell_floats z)) (sym (append-nil I.done) ∙ ap (λ z. I.done ++ z) (sym e) ∙ I.rest)

  pub putting_stop : (r : Refusal) → j < n → plane_for t ps (counts_at l at (get_or counts j 0)) ≡ Err r → s ≡ sets s₀ 0 (cell_floats (framed t ps (faces_at l 0 (counts_at counts 0 n))))
  putting_stop r h e = last (ap (framed t ps) (along_face I.along room h) ∙ framed_stop t ps (counts_at l at (get_or counts j 0)) (faces_at l (at + get_or counts j 0) (drop (j + 1) (counts_at counts 0 n))) r e)

  pub putting_end : n ≤ j → s ≡ sets s₀ 0 (cell_floats (framed t ps (faces_at l 0 (counts_at counts 0 n))))
  unfolding framed
  putting_end h = last (ap (framed t ps) (along_end I.along room h))
