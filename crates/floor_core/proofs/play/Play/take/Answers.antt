use Rattle.std.proofs.Common.{◌≡◌, refl, sym, subst}
use Rattle.std.specs.Prelude.{OnOk}
use Rattle.table_engine.specs.Acts.{IsAnswer}
use Rattle.tournament_rules.specs.States.{PlayState, refusal_of, play_effect}
use Rattle.tournament_rules.specs.Valid.{IsValid}
use Rattle.floor_core.proofs.play.Play.take.Goals as goal

pub same-self : goal.same-self
same-self c = refl

pub same-self-in-Plan-2 : goal.same-self-in-Plan-2
same-self-in-Plan-2 c = refl

pub same-self-in-Begin : goal.same-self-in-Begin
same-self-in-Begin c = refl

pub same-self-in-Act : goal.same-self-in-Act
same-self-in-Act c = refl

pub same-self-in-Time : goal.same-self-in-Time
same-self-in-Time c = refl

pub same-self-in-Settle : goal.same-self-in-Settle
same-self-in-Settle c = refl

pub same-self-in-Stop : goal.same-self-in-Stop
same-self-in-Stop c = refl

pub same-self-in_default : goal.same-self-in_default
same-self-in_default c = refl

pub returns-in-Begin : goal.returns-in-Begin
returns-in-Begin c = record {
  answer = subst (λ event. IsAnswer (refusal_of c.args.self.now event) c.begin.result)
      (sym c.in-Begin.is) c.begin.ensures.answer;
  state = subst (λ event. OnOk c.begin.result (c.begin.new.self ≡ play_effect c.args.self.now event))
      (sym c.in-Begin.is)
      c.begin.ensures.state;
  err = c.begin.ensures.err;
  lawful = subst (λ (play : PlayState). IsValid play.book) c.self.view_is c.seats.ensures.lawful;
}

pub returns-in-Act : goal.returns-in-Act
returns-in-Act c = record {
  answer = subst (λ event. IsAnswer (refusal_of c.args.self.now event) c.act.result)
      (sym c.in-Act.is) c.act.ensures.answer;
  state = subst (λ event. OnOk c.act.result (c.act.new.self ≡ play_effect c.args.self.now event)) (sym c.in-Act.is)
      c.act.ensures.state;
  err = c.act.ensures.err;
  lawful = subst (λ (play : PlayState). IsValid play.book) c.self.view_is c.seats.ensures.lawful;
}

pub returns-in-Time : goal.returns-in-Time
returns-in-Time c = record {
  answer = subst (λ event. IsAnswer (refusal_of c.args.self.now event) c.time.result)
      (sym c.in-Time.is) c.time.ensures.answer;
  state = subst (λ event. OnOk c.time.result (c.time.new.self ≡ play_effect c.args.self.now event)) (sym c.in-Time.is)
      c.time.ensures.state;
  err = c.time.ensures.err;
  lawful = subst (λ (play : PlayState). IsValid play.book) c.self.view_is c.seats.ensures.lawful;
}

pub returns-in-Settle : goal.returns-in-Settle
returns-in-Settle c = record {
  answer = subst (λ event. IsAnswer (refusal_of c.args.self.now event) c.settle.result)
      (sym c.in-Settle.is) c.settle.ensures.answer;
  state = subst (λ event. OnOk c.settle.result (c.settle.new.self ≡ play_effect c.args.self.now event))
      (sym c.in-Settle.is)
      c.settle.ensures.state;
  err = c.settle.ensures.err;
  lawful = subst (λ (play : PlayState). IsValid play.book) c.self.view_is c.seats.ensures.lawful;
}

pub returns-in-Stop : goal.returns-in-Stop
returns-in-Stop c = record {
  answer = subst (λ event. IsAnswer (refusal_of c.args.self.now event) c.stop.result)
      (sym c.in-Stop.is) c.stop.ensures.answer;
  state = subst (λ event. OnOk c.stop.result (c.stop.new.self ≡ play_effect c.args.self.now event)) (sym c.in-Stop.is)
      c.stop.ensures.state;
  err = c.stop.ensures.err;
  lawful = subst (λ (play : PlayState). IsValid play.book) c.self.view_is c.seats.ensures.lawful;
}

pub returns-in_default : goal.returns-in_default
returns-in_default c = record {
  answer = c.order.ensures.answer;
  state = c.order.ensures.state;
  err = c.order.ensures.err;
  lawful = subst (λ (play : PlayState). IsValid play.book) c.self.view_is c.seats.ensures.lawful;
}
