mod RunLaws
mod HarbourLaws
mod LineLaws
