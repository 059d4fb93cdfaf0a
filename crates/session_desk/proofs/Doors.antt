-- The links of a door, given and back.
use Rattle.std.proofs.Common.{◌≡◌, ◌∙◌, inl, inr, refl, sym, ap, subst, ℕ, Bool, true, false, List, [], ◌∷◌, ◌++◌, Option, Some, None, Ok, map, append-nil, append_assoc, arith}
use Rattle.std.specs.Prelude.{IfSome, nat_lt, option_map}
use Rattle.std.proofs.lemmas.Bool.Decides.{nat_tests}
use Rattle.std.proofs.lemmas.List.{map-append}
use Rattle.floor_text.specs.Memory.{count_up}
use Rattle.floor_text.specs.Outside.{Rose, last_count}
use Rattle.links.specs.Links.{after_knock, with_back}
use Rattle.links.specs.Telling.{DoorTelling}
use Rattle.session_desk.specs.Talks.{Served}
use Rattle.session_desk.specs.Works.{AreBack}

-- a count that is counted up rose, by whether it stands at its type's end
rose-by : (n : ℕ) (below : Bool) → nat_lt n last_count ≡ below → Rose n (count_up n)
rose-by n true below = inl (grind (arith, nat_tests))
rose-by n false below = inr (grind (arith, nat_tests))

-- so it rose in both cases
rose-up : (n : ℕ) → Rose n (count_up n)
rose-up n = rose-by n (nat_lt n last_count) refl

-- a count that rose, and rose again, rose
rose-both : (first mid last : ℕ) → Rose first mid → Rose mid last → Rose first last
rose-both first mid last one (inr stands) = inr stands
rose-both first mid last (inl rose) (inl again) = inl (omega arith)
rose-both first mid last (inr stands) (inl again) = inr (omega arith)

module _ {L : Type 0} where
  -- A knock brought nobody.
  pub back-none : (first last : Option (DoorTelling L))
      → last ≡ option_map (λ (t : DoorTelling L). record t { knocks = count_up t.knocks }) first
      → IfSome first (λ t. (u : DoorTelling L) × (last ≡ Some u) × AreBack [] t u)
  back-none None last told = tt
  back-none (Some t) last told = (
    record t { knocks = count_up t.knocks },
    told,
    record { knocked = rose-up t.knocks; given = sym (append-nil t.given); back = sym (append-nil t.back) },
  )

  -- A knock brought somebody, whose link is back.
  pub back-one : (one : Served L) (first mid last : Option (DoorTelling L))
      → mid ≡ option_map (after_knock (Ok (Some one.came))) first → last ≡ option_map (with_back one.left) mid
      → IfSome first (λ t. (u : DoorTelling L) × (last ≡ Some u) × AreBack (one ∷ []) t u)
  back-one one None mid last came left = tt
  back-one one (Some t) mid last came left = (
    with_back one.left (after_knock (Ok (Some one.came)) t),
    left ∙ ap (option_map (with_back one.left)) came,
    record { knocked = rose-up t.knocks; given = refl; back = refl },
  )

  -- the links of some sessions are back, and then those of others
  both-back : (some others : List (Served L)) (first mid last : DoorTelling L) → AreBack some first mid
      → AreBack others mid last → AreBack (some ++ others) first last
  both-back some others first mid last one two =
      let came : Served L → L = λ (s : Served L). s.came in
      let left : Served L → L = λ (s : Served L). s.left in
      record {
        knocked = rose-both first.knocks mid.knocks last.knocks one.knocked two.knocked;
        given =
            two.given
            ∙ (ap (λ (l : List L). l ++ map came others) one.given
            ∙ (append_assoc first.given (map came some) (map came others)
            ∙ ap (λ (l : List L). first.given ++ l) (sym (map-append came some others))));
        back =
            two.back
            ∙ (ap (λ (l : List L). l ++ map left others) one.back
            ∙ (append_assoc first.back (map left some) (map left others)
            ∙ ap (λ (l : List L). first.back ++ l) (sym (map-append left some others))));
      }

  -- The links of some sessions are back, and then those of others, where the door tells.
  pub back-both : (some others : List (Served L)) (first mid last : Option (DoorTelling L))
      → IfSome first (λ t. (u : DoorTelling L) × (mid ≡ Some u) × AreBack some t u)
      → IfSome mid (λ t. (u : DoorTelling L) × (last ≡ Some u) × AreBack others t u)
      → IfSome first (λ t. (u : DoorTelling L) × (last ≡ Some u) × AreBack (some ++ others) t u)
  back-both some others None mid last one two = tt
  back-both some others (Some t) None last one two = absurd (cc (one.1))
  back-both some others (Some t) (Some m) last one two =
      let same : one.0 ≡ m = cc (one.1) in (
        two.0,
        two.1,
        both-back some others t m two.0 (subst (λ (u : DoorTelling L). AreBack some t u) same one.2) two.2,
      )
