-- A hall has as many doors back more as it gave more.
use Rattle.std.proofs.Common.{◌≡◌, ◌∙◌, refl, sym, ap, subst, Bool, List, [], ◌++◌, Option, Some, None, length, append-nil}
use Rattle.std.specs.Prelude.{IfSome, option_map}
use Rattle.std.proofs.lemmas.List.{length-map}
use Rattle.links.specs.Telling.{HallTelling}
use Rattle.links.specs.Links.{with_all_back, with_given}
use Rattle.floor_crew.specs.DoorRuns.{AreRuns, DoorRun}
use Rattle.floor_online.specs.Doors.{AreDoorsBack, IsEvenOn}

module _ {D : Type 0} where
  -- What is told is even with itself.
  pub even-still : (told : Option (HallTelling D))
      → IfSome told (λ t. (u : HallTelling D) × (told ≡ Some u) × IsEvenOn t u)
  even-still None = tt
  even-still (Some t) = (
    t,
    refl,
    record {
      given = [];
      back = [];
      all_given = sym (append-nil t.given);
      all_back = sym (append-nil t.back);
      as_many = refl;
    },
  )

  -- And with what is told still.
  pub even-kept : (first last : Option (HallTelling D)) → last ≡ first
      → IfSome first (λ t. (u : HallTelling D) × (last ≡ Some u) × IsEvenOn t u)
  even-kept first last same =
      subst (λ (told : Option (HallTelling D)). IfSome first
      (λ t. (u : HallTelling D) × (told ≡ Some u) × IsEvenOn t u)) (sym same) (even-still first)

  -- Doors were given, and as many came back.
  pub even-round : (first mid last : Option (HallTelling D)) (given back : List D)
      → mid ≡ option_map (with_given given) first → last ≡ option_map (with_all_back back) mid
      → length back ≡ length given → IfSome first (λ t. (u : HallTelling D) × (last ≡ Some u) × IsEvenOn t u)
  even-round None mid last given back one two same = tt
  even-round (Some t) mid last given back one two same = (
    with_all_back back (with_given given t),
    two ∙ ap (option_map (with_all_back back)) one,
    record { given = given; back = back; all_given = refl; all_back = refl; as_many = same },
  )

  module _ (doors : List (DoorRun D)) (given back : List D) (failed : List Bool) (are : AreRuns doors given back failed)
    where
      -- They are as many as were given.
      pub runs-many : length doors ≡ length given
      runs-many = sym (length-map doors (λ (door : DoorRun D). door.given)) ∙ ap length are.given_are

      -- As many doors came back as were given.
      pub runs-even : length back ≡ length given
      runs-even = sym (ap length are.back_are) ∙ (length-map doors (λ (door : DoorRun D). door.back) ∙ runs-many)

      -- Each was given, and all of them came back.
      pub runs-back : (first mid last : Option (HallTelling D)) → mid ≡ option_map (with_given given) first
          → last ≡ option_map (with_all_back back) mid
          → IfSome first (λ t. (u : HallTelling D) × (last ≡ Some u) × AreDoorsBack doors t u)
      runs-back None mid last one two = tt
      runs-back (Some t) mid last one two = (
        with_all_back back (with_given given t),
        two ∙ ap (option_map (with_all_back back)) one,
        record {
          given = ap (λ l. t.given ++ l) (sym are.given_are);
          back = ap (λ l. t.back ++ l) (sym are.back_are);
        },
      )
